-- What stands in a list of paths after a change.
use Rattle.std.specs.Prelude.{◌≡◌, Bool, true, false, not, ◌&&◌, ◌||◌, List, [], ◌∷◌}
use Rattle.std.proofs.Common.{ap, inl, inr, arith}
use Rattle.std.proofs.lemmas.Bool.{cases_Bool}
use Rattle.std.proofs.lemmas.Map.Views.{any-filter_same}
use Rattle.paths.specs.Names.{Names, same_path}
use Rattle.paths.specs.Order.{before_path}
use Rattle.paths.specs.Equal.{same_path_true, names_equiv}
use Rattle.tables.specs.Lists.{any, placed}
use Rattle.simulated.specs.Paths.{holds, joined, parted}

any_placed : {X : Type 0} (t u : X → Bool) (y : X) (xs : List X) → any t (placed u y xs) ≡ (t y || any t xs)
any_placed t u y [] = let b = cases_Bool (t y) in grind arith
any_placed t u y (x ∷ xs) =
    let i = any_placed t u y xs in
    let a = cases_Bool (u x) in let b = cases_Bool (t y) in let d = cases_Bool (t x) in
    grind arith

module _ (p q : Names) (xs : List Names) where
  -- p stands in the list, so that to join it changes nothing
  held_on : holds p xs ≡ true → holds q xs ≡ (same_path q p || holds q xs)
  held_on h =
      elim (cases_Bool (same_path q p)) [
        | inl e ↦ let k = ap (λ x. holds x xs) (same_path_true q p e) in grind arith
        | inr e ↦ grind arith
      ]

  pub joined_on : holds q (joined p xs) ≡ (same_path q p || holds q xs)
  joined_on =
      elim (cases_Bool (holds p xs)) [
        | inl e ↦ let k = held_on e in grind arith
        | inr e ↦ let k = any_placed (λ x. same_path x q) (λ x. not (before_path x p)) p xs in let s = names_equiv.symm p q in grind arith
      ]

  pub parted_off : holds q (parted p xs) ≡ (not (same_path q p) && holds q xs)
  parted_off = any-filter_same (λ x. same_path x q) (λ x. not (same_path x p)) (not (same_path q p)) (λ x e. ap (λ y. not (same_path y p)) (same_path_true x q e)) xs

  -- p does not stand in the list, so that to part from it changes nothing
  pub unheld_off : holds p xs ≡ false → holds q xs ≡ (not (same_path q p) && holds q xs)
  unheld_off h =
      elim (cases_Bool (same_path q p)) [
        | inl e ↦ let k = ap (λ x. holds x xs) (same_path_true q p e) in grind arith
        | inr e ↦ grind arith
      ]
