-- What the place of the first entry that passes says of the list.
use Rattle.std.proofs.Common.{◌≡◌, ℕ, zero, suc, ◌+◌, ◌<◌, Bool, not, ltb, List, [], ◌∷◌, length, is_some, Some, None, position, unwrap_or, refl, sym, ap, ◌∙◌, inl, inr, arith}
use Rattle.std.specs.List.{insert, position_or_len}
use Rattle.std.proofs.lemmas.Bool.{cases_Bool, cond-true, cond-false, ltb-true, ltb-false}
use Rattle.std.proofs.lemmas.Bool.Decides.{nat_tests}
use Rattle.std.proofs.lemmas.List.Sums.{prefix_len-le-length}
use Rattle.tables.specs.Lists.{any, placed}
use Rattle.tables.proofs.Sought.{Hit, Missed, missing}

module _ {X : Type 0} (test : X → Bool) where
  within_any : (xs : List X) → ltb (position_or_len test xs) (length xs) ≡ any test xs
  within_any [] = refl
  within_any (x ∷ xs) = let i = within_any xs in let b = cases_Bool (test x) in grind (arith, nat_tests)

  pub any_place : (xs : List X) → is_some (position test xs) ≡ any test xs
  any_place xs =
      let w = within_any xs in
      let b = cases_Bool (ltb (position_or_len test xs) (length xs)) in
      grind arith

  -- no entry passes
  pub missed : (xs : List X) → None ≡ position test xs → Missed test xs
  missed xs e = missing test xs (sym (any_place xs) ∙ ap is_some (sym e))

  hit_at : (xs : List X) (i : ℕ) → i ≡ position_or_len test xs → i < length xs → Hit test xs i
  hit_at [] i e l = absurd (omega arith)
  hit_at (x ∷ xs) zero e l =
      elim (cases_Bool (test x)) [
        | inl t ↦ record { within = omega arith; some = grind arith; found = λ y h. grind arith; left = grind arith; same = λ f y h. grind arith }
        | inr t ↦ absurd (let z : 0 ≡ 1 + position_or_len test xs = grind arith in omega arith)
      ]
  hit_at (x ∷ xs) (suc i) e l =
      elim (cases_Bool (test x)) [
        | inl t ↦ absurd (let z : suc i ≡ 0 = grind arith in omega arith)
        | inr t ↦
            let p : suc i ≡ 1 + position_or_len test xs = grind arith in
            let h = hit_at xs i (omega arith) (omega arith) in
            record {
              within = omega arith;
              some = let s = h.some in grind arith;
              found = λ y q. let s = h.found y q in grind arith;
              left = let s = h.left in grind arith;
              same = λ f y q. let s = h.same f y q in grind arith;
            }
      ]

  -- the entry at i is the first that passes
  pub hit : (xs : List X) (i : ℕ) → Some i ≡ position test xs → Hit test xs i
  hit xs i e =
      elim (cases_Bool (ltb (position_or_len test xs) (length xs))) [
        | inl h ↦ let p : Some i ≡ Some (position_or_len test xs) = e ∙ cond-true _ _ _ h in hit_at xs i (cc) (let q : i ≡ position_or_len test xs = cc in omega (arith, ltb-true (position_or_len test xs) (length xs) h))
        | inr h ↦ absurd (let p : Some i ≡ None = e ∙ cond-false _ _ _ h in let z : ◌≡◌ {A = ℕ} 0 1 = cc in omega arith)
      ]

  placed_first : (y : X) (xs : List X) → placed test y xs ≡ insert xs (position_or_len test xs) y
  placed_first y [] = refl
  placed_first y (x ∷ xs) =
      let i = placed_first y xs in
      let n : 1 + position_or_len test xs ≡ suc (position_or_len test xs) = omega arith in
      elim (cases_Bool (test x)) [ inl e ↦ rw e refl | inr e ↦ rw (e, n) (ap (λ zs. x ∷ zs) i) ]

  -- put at the place that was found, or at the end
  pub placed_at : (y : X) (xs : List X) → placed test y xs ≡ insert xs (unwrap_or (position test xs) (length xs)) y
  placed_at y xs =
      placed_first y xs ∙ ap (λ i. insert xs i y) (
      elim (cases_Bool (ltb (position_or_len test xs) (length xs))) [
        | inl h ↦ ap (λ r. unwrap_or r (length xs)) (sym (cond-true _ _ _ h))
        | inr h ↦ omega (arith, ltb-false (position_or_len test xs) (length xs) h, prefix_len-le-length (λ x. not (test x)) xs) ∙ ap (λ r. unwrap_or r (length xs)) (sym (cond-false _ _ _ h))
      ]
      )
