-- How many paths a list has after a change.
use Rattle.std.proofs.Common.{◌≡◌, ℕ, suc, ◌≤◌, Bool, true, not, List, [], ◌∷◌, length, refl, inl, inr, arith}
use Rattle.std.proofs.lemmas.Bool.{cases_Bool, cases_lt, lt-ltb, le-ltb}
use Rattle.std.proofs.lemmas.List.Filters.{length-filter_both}
use Rattle.paths.specs.Names.{Names, same_path}
use Rattle.paths.specs.Order.{before_path}
use Rattle.tables.specs.Lists.{placed}
use Rattle.simulated.specs.Paths.{holds, takes, entered, parted}

length-placed : {X : Type 0} (t : X → Bool) (y : X) (xs : List X) → length (placed t y xs) ≡ suc (length xs)
length-placed t y [] = refl
length-placed t y (x ∷ xs) = let i = length-placed t y xs in let b = cases_Bool (t x) in grind arith

pub parted_within : (p : Names) (xs : List Names) → length (parted p xs) ≤ length xs
parted_within p xs = omega (arith, length-filter_both (λ x. not (same_path x p)) (λ x. not (not (same_path x p))) (λ x. refl) xs)

pub entered_within : (n m : ℕ) (p : Names) (xs : List Names) → takes n p xs ≡ true → n ≤ m → length xs ≤ n → length (entered m p xs).1 ≤ n
entered_within n m p xs t h l =
    let b = cases_Bool (holds p xs) in
    let c = length-placed (λ x. not (before_path x p)) p xs in
    elim (cases_lt (length xs) n) [
      | inl s ↦ let e = lt-ltb (length xs) m (omega (arith, h, s)) in grind arith
      | inr g ↦ let e = le-ltb (length xs) n g in grind arith
    ]
