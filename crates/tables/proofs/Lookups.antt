-- What is found under a key after it was removed or entered.
use Rattle.std.proofs.Common.{◌≡◌, ℕ, Bool, true, false, List, [], ◌∷◌, Some, refl, inl, inr, arith}
use Rattle.std.proofs.lemmas.Bool.{cases_Bool}
use Rattle.std.specs.Ordering.{is_eq, is_lt}
use Rattle.std.specs.declared.cmp.Ordering.{Ordering}
use Rattle.tables.specs.declared.entry.Entry.{Entry}
use Rattle.tables.specs.Entries.{under, held, revalued, ascending}
use Rattle.tables.specs.Lists.{any, every, without, placed}

module _ {K V : Type 0} (cmp : K → K → Ordering) (k : K) where
  pub held_revalued : (v : V) (xs : List (Entry K V)) → any (under cmp k) xs ≡ true → held cmp k (revalued cmp k (λ _. v) xs) ≡ Some v
  held_revalued v [] e = absurd (let z : ◌≡◌ {A = ℕ} 0 1 = cc in omega arith)
  held_revalued v (x ∷ xs) e = let b = cases_Bool (is_eq (cmp x.key k)) in let i = held_revalued v xs in grind arith

  pub held_placed : (t : Entry K V → Bool) (v : V) → is_eq (cmp k k) ≡ true → (xs : List (Entry K V)) → any (under cmp k) xs ≡ false → held cmp k (placed t (record { key = k; value = v }) xs) ≡ Some v
  held_placed t v r [] e = grind arith
  held_placed t v r (x ∷ xs) e = let b = cases_Bool (is_eq (cmp x.key k)) in let q = cases_Bool (t x) in let i = held_placed t v r xs in grind arith

  -- no later key is tied with k, where x's is, in an ascending list
  none_after : ((a b c : K) → is_eq (cmp a c) ≡ true → is_eq (cmp b c) ≡ true → is_lt (cmp a b) ≡ false) → (a : K) → is_eq (cmp a k) ≡ true
      → (xs : List (Entry K V)) → every (λ e. is_lt (cmp a e.key)) xs ≡ true → any (under cmp k) xs ≡ false
  none_after apart a s [] e = refl
  none_after apart a s (x ∷ xs) e =
      let b = cases_Bool (is_lt (cmp a x.key)) in
      let q = cases_Bool (is_eq (cmp x.key k)) in
      let n = apart a x.key k s in
      let i = none_after apart a s xs (grind arith) in
      grind arith

  pub gone : ((a b c : K) → is_eq (cmp a c) ≡ true → is_eq (cmp b c) ≡ true → is_lt (cmp a b) ≡ false)
      → (xs : List (Entry K V)) → ascending cmp xs ≡ true → any (under cmp k) (without (under cmp k) xs) ≡ false
  gone apart [] e = refl
  gone apart (x ∷ xs) e =
      let b = cases_Bool (every (λ y. is_lt (cmp x.key y.key)) xs) in
      let i = gone apart xs (grind arith) in
      elim (cases_Bool (is_eq (cmp x.key k))) [
        | inl s ↦ let n = none_after apart x.key s xs (grind arith) in grind arith
        | inr s ↦ grind arith
      ]
