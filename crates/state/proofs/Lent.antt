-- A value that was lent under its key, and what came of the table.
use Rattle.std.proofs.Common.{◌≡◌, ℕ, true, List, [], ◌∷◌, Some, None, refl, arith}
use Rattle.std.proofs.lemmas.Bool.{cases_Bool}
use Rattle.std.specs.Ordering.{is_eq}
use Rattle.std.specs.declared.cmp.Ordering.{Ordering}
use Rattle.tables.specs.declared.entry.Entry.{Entry}
use Rattle.tables.specs.Entries.{under, held, revalued}
use Rattle.tables.specs.Lists.{any}

module _ {K V : Type 0} (cmp : K → K → Ordering) (k : K) where
  -- it came back changed by f
  pub lent_there : (f : V → V) (xs : List (Entry K V)) {v : V} → Some v ≡ held cmp k xs → revalued cmp k (λ _. f v) xs ≡ revalued cmp k f xs
  lent_there f [] {v} e = refl
  lent_there f (x ∷ xs) {v} e = let b = cases_Bool (is_eq (cmp x.key k)) in let i = lent_there f xs {v = v} in grind arith

  -- nothing stood there
  pub lent_nowhere : (f : V → V) (xs : List (Entry K V)) → None ≡ held cmp k xs → xs ≡ revalued cmp k f xs
  lent_nowhere f [] e = refl
  lent_nowhere f (x ∷ xs) e = let b = cases_Bool (is_eq (cmp x.key k)) in let i = lent_nowhere f xs in grind arith

  -- what was lent stands there
  pub held_there : (xs : List (Entry K V)) {v : V} → Some v ≡ held cmp k xs → any (under cmp k) xs ≡ true
  held_there [] {v} e = absurd (let z : ◌≡◌ {A = ℕ} 0 1 = cc in omega arith)
  held_there (x ∷ xs) {v} e = let b = cases_Bool (is_eq (cmp x.key k)) in let i = held_there xs {v = v} in grind arith
