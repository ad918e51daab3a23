-- A table's entries after a change: what is entered, and that they ascend.
use Rattle.std.proofs.Common.{◌≡◌, ℕ, ◌<◌, ◌≤◌, Bool, true, false, not, List, [], ◌∷◌, length, Ok, Err, filter, refl, ap, ◌∙◌, inl, inr, arith}
use Rattle.std.proofs.lemmas.Bool.{cases_Bool, cases_lt, cond-true, cond-false, lt-ltb, le-ltb}
use Rattle.std.specs.Cmp.{IsTotalOrder}
use Rattle.std.specs.Ordering.{is_eq, is_lt, ordering_reverse}
use Rattle.std.specs.declared.cmp.Ordering.{Ordering}
use Rattle.std.specs.declared.cmp.Ordering.TheVariants.{Less, Equal, Greater}
use Rattle.tables.specs.declared.entry.Entry.{Entry}
use Rattle.tables.specs.Entries.{under, before, revalued, ascending, entered}
use Rattle.tables.specs.Room.{fitted}
use Rattle.tables.specs.Lists.{any, placed, without}
use Rattle.tables.proofs.Ascents.{ascends_kept, ascends_without, ascends_changed, ascends_placed}
use Rattle.std.specs.List.{items_where_true}
use Rattle.std.proofs.lemmas.Cmp.{alike_right}
use Rattle.tables.proofs.Ascents.{ascends_where}
use Rattle.tables.proofs.Lookups.{gone as gone_where}
use Rattle.tables.proofs.Sought.{less_of, equal_of}

module _ {K V : Type 0} (cmp : K → K → Ordering) (xs : List (Entry K V)) (up : ascending cmp xs ≡ true) where
  pub ascending_where : (bs : List Bool) → ascending cmp (items_where_true bs xs) ≡ true
  ascending_where bs = ascends_where (λ a b. is_lt (cmp a.key b.key)) bs xs up

  pub ascending_kept : (t : Entry K V → Bool) → ascending cmp (filter t xs) ≡ true
  ascending_kept t = ascends_kept (λ a b. is_lt (cmp a.key b.key)) t xs up

  pub ascending_without : (t : Entry K V → Bool) → ascending cmp (without t xs) ≡ true
  ascending_without t = ascends_without (λ a b. is_lt (cmp a.key b.key)) t xs up

  pub ascending_revalued : (k : K) (f : V → V) → ascending cmp (revalued cmp k f xs) ≡ true
  ascending_revalued k f = ascends_changed (λ a b. is_lt (cmp a.key b.key)) (under cmp k) (λ e. record { key = e.key; value = f e.value }) (λ _ _. refl) (λ _ _. refl) xs up

-- of two that are not tied, one is before the other
turned : (o : Ordering) → is_eq o ≡ false → is_lt o ≡ false → is_lt (ordering_reverse o) ≡ true
turned Less e f = absurd (let z : ◌≡◌ {A = ℕ} 0 1 = cc in omega arith)
turned Equal e f = absurd (let z : ◌≡◌ {A = ℕ} 0 1 = cc in omega arith)
turned Greater e f = refl

module _ {K V : Type 0} (cmp : K → K → Ordering) (n : ℕ) (k : K) (v : V) (xs : List (Entry K V)) where
  pub entered_there : any (under cmp k) xs ≡ true → entered cmp n k v xs ≡ (Ok tt, revalued cmp k (λ _. v) xs)
  entered_there e = cond-true _ _ _ e

  pub entered_new : any (under cmp k) xs ≡ false → length xs < n → entered cmp n k v xs ≡ (Ok tt, placed (λ e. not (before cmp k e)) (record { key = k; value = v }) xs)
  entered_new e l = cond-false _ _ _ e ∙ cond-true _ _ _ (lt-ltb _ _ l)

  pub entered_full : any (under cmp k) xs ≡ false → n ≤ length xs → entered cmp n k v xs ≡ (Err (record {}), xs)
  entered_full e l = cond-false _ _ _ e ∙ cond-false _ _ _ (le-ltb _ _ l)

  ascending_put : ((a b : K) → is_eq (cmp a b) ≡ false → is_lt (cmp a b) ≡ false → is_lt (cmp b a) ≡ true) → ((a b c : K) → is_lt (cmp a b) ≡ true → is_lt (cmp b c) ≡ true → is_lt (cmp a c) ≡ true)
      → any (under cmp k) xs ≡ false → ascending cmp xs ≡ true
      → ascending cmp (placed (λ e. not (before cmp k e)) (record { key = k; value = v }) xs) ≡ true
  ascending_put total trans e up =
      ascends_placed (λ a b. is_lt (cmp a.key b.key)) (under cmp k) (record { key = k; value = v })
      (λ a b c. trans a.key b.key c.key) (λ x. total x.key k) xs e up

  pub ascending_placed : IsTotalOrder cmp → any (under cmp k) xs ≡ false → ascending cmp xs ≡ true
      → ascending cmp (placed (λ e. not (before cmp k e)) (record { key = k; value = v }) xs) ≡ true
  ascending_placed o =
      ascending_put
      (λ a b p q. ap is_lt (o.antisymm b a) ∙ turned (cmp a b) p q)
      (λ a b c p q. ap is_lt (o.trans a b c (less_of _ p) (less_of _ q)))

  pub ascending_entered : ((a b : K) → is_eq (cmp a b) ≡ false → is_lt (cmp a b) ≡ false → is_lt (cmp b a) ≡ true) → ((a b c : K) → is_lt (cmp a b) ≡ true → is_lt (cmp b c) ≡ true → is_lt (cmp a c) ≡ true)
      → ascending cmp xs ≡ true → ascending cmp (entered cmp n k v xs).1 ≡ true
  ascending_entered total trans up =
      elim (cases_Bool (any (under cmp k) xs)) [
        | inl e ↦ rw (entered_there e) (ascending_revalued cmp xs up k (λ _. v))
        | inr e ↦
            elim (cases_lt (length xs) n) [
              | inl l ↦ rw (entered_new e l) (ascending_put total trans e up)
              | inr l ↦ rw (entered_full e l) up
            ]
      ]

module _ {K : Type 0} (cmp : K → K → Ordering) (o : IsTotalOrder cmp) where
  -- of two that are tied with a third, none is before the other
  apart : (a b c : K) → is_eq (cmp a c) ≡ true → is_eq (cmp b c) ≡ true → is_lt (cmp a b) ≡ false
  apart a b c e f = ap is_lt (alike_right o b c a (equal_of (cmp b c) f) ∙ equal_of (cmp a c) e)

module _ {K V : Type 0} (cmp : K → K → Ordering) (o : IsTotalOrder cmp) (k : K) where
  pub gone : (xs : List (Entry K V)) → ascending cmp xs ≡ true → any (under cmp k) (without (under cmp k) xs) ≡ false
  gone = gone_where cmp k (apart cmp o)

-- what is left where none passes is what fails
pub kept_others : {X : Type 0} (t : X → Bool) (xs : List X) → any t xs ≡ false → filter (λ x. not (t x)) xs ≡ xs
kept_others t [] e = refl
kept_others t (x ∷ xs) e = let b = cases_Bool (t x) in let i = kept_others t xs (grind arith) in grind arith

pub left_others : {X : Type 0} (t : X → Bool) (xs : List X) → any t (without t xs) ≡ false → without t xs ≡ filter (λ x. not (t x)) xs
left_others t [] e = refl
left_others t (x ∷ xs) e =
    elim (cases_Bool (t x)) [
      | inl u ↦ let k = kept_others t xs (grind arith) in grind arith
      | inr u ↦ let i = left_others t xs (grind arith) in grind arith
    ]

-- there is a place for one more
pub fitted_new : {X : Type 0} (n : ℕ) (xs ys : List X) → length xs < n → fitted n xs ys ≡ (Ok tt, ys)
fitted_new n xs ys l = cond-true _ _ _ (lt-ltb _ _ l)
