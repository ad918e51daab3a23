-- What a search of an ascending list by its keys finds, and what an edit at that place does.
use Rattle.std.proofs.Common.{◌≡◌, ℕ, zero, suc, ◌+◌, ◌<◌, ◌≤◌, Bool, true, false, not, List, [], ◌∷◌, length, get_or, set, Some, None, Ok, Err, Result, refl, sym, ap, ◌∙◌, inl, inr, arith}
use Rattle.std.proofs.lemmas.Bool.{cases_Bool, cases_lt}
use Rattle.std.proofs.lemmas.Cmp.{alike_right}
use Rattle.std.specs.Cmp.{IsTotalOrder}
use Rattle.std.specs.Ordering.{is_eq, is_lt, ordering_index}
use Rattle.std.specs.declared.cmp.Ordering.{Ordering}
use Rattle.std.specs.declared.cmp.Ordering.TheVariants.{Less, Equal, Greater}
use Rattle.std.specs.List.{insert, remove, prefix_len}
use Rattle.std.specs.List.Sorted.{IsSearchInRange, IsBinarySearchResult, IsNonDecreasingBy}
use Rattle.tables.specs.declared.entry.Entry.{Entry}
use Rattle.tables.specs.Entries.{under, before, sought, ascending}
use Rattle.tables.specs.Lists.{any, every, first, changed, without, placed}

pub equal_of : (o : Ordering) → is_eq o ≡ true → o ≡ Equal
equal_of Less e = absurd (let z : ◌≡◌ {A = ℕ} 0 1 = cc in omega arith)
equal_of Equal e = refl
equal_of Greater e = absurd (let z : ◌≡◌ {A = ℕ} 0 1 = cc in omega arith)

pub less_of : (o : Ordering) → is_lt o ≡ true → o ≡ Less
less_of Less e = refl
less_of Equal e = absurd (let z : ◌≡◌ {A = ℕ} 0 1 = cc in omega arith)
less_of Greater e = absurd (let z : ◌≡◌ {A = ℕ} 0 1 = cc in omega arith)

every_at : {X : Type 0} (p : X → Bool) (xs : List X) (i : ℕ) (d : X) → every p xs ≡ true → i < length xs → p (get_or xs i d) ≡ true
every_at p [] i d e h = absurd (omega (arith, h))
every_at p (x ∷ xs) zero d e h = let b = cases_Bool (p x) in grind arith
every_at p (x ∷ xs) (suc i) d e h = let b = cases_Bool (p x) in every_at p xs i d (grind arith) (omega (arith, h))

-- what is put before the first entry that passes stands at its place
pub placed_at : {X : Type 0} (t : X → Bool) (y : X) (xs : List X) → placed (λ x. not (t x)) y xs ≡ insert xs (prefix_len t xs) y
placed_at t y [] = refl
placed_at t y (x ∷ xs) =
    let i = placed_at t y xs in
    let n : 1 + prefix_len t xs ≡ suc (prefix_len t xs) = omega arith in
    elim (cases_Bool (t x)) [ inl e ↦ rw (e, n) (ap (λ zs. x ∷ zs) i) | inr e ↦ rw e refl ]

pub prefix_within : {X : Type 0} (t : X → Bool) (xs : List X) → prefix_len t xs ≤ length xs
prefix_within t [] = omega arith
prefix_within t (x ∷ xs) = let i = prefix_within t xs in elim (cases_Bool (t x)) [ inl e ↦ rw e (omega (arith, i)) | inr e ↦ rw e (omega arith) ]

ascending_at : {K V : Type 0} (cmp : K → K → Ordering) (xs : List (Entry K V)) (i j : ℕ) (d : Entry K V) → ascending cmp xs ≡ true → i < j → j < length xs
    → is_lt (cmp (get_or xs i d).key (get_or xs j d).key) ≡ true
ascending_at cmp [] i j d a l w = absurd (omega (arith, w))
ascending_at cmp (x ∷ xs) i zero d a l w = absurd (omega (arith, l))
ascending_at cmp (x ∷ xs) zero (suc j) d a l w =
    let b = cases_Bool (every (λ y. is_lt (cmp x.key y.key)) xs) in
    every_at (λ y. is_lt (cmp x.key y.key)) xs j d (grind arith) (omega (arith, w))
ascending_at cmp (x ∷ xs) (suc i) (suc j) d a l w =
    let b = cases_Bool (every (λ y. is_lt (cmp x.key y.key)) xs) in
    ascending_at cmp xs i j d (grind arith) (omega (arith, l)) (omega (arith, w))

module _ {K : Type 0} (cmp : K → K → Ordering) (o : IsTotalOrder cmp) (k : K) where
  -- where x is before y, x's answer is no higher than y's
  answer_rises : (x y : K) (p q : Ordering) → cmp x k ≡ p → cmp y k ≡ q → cmp x y ≡ Less → ordering_index p ≤ ordering_index q
  answer_rises x y Less q e f l = omega arith
  answer_rises x y Equal Less e f l = absurd (let t = sym (o.trans x y k l f) ∙ e in let z : ◌≡◌ {A = ℕ} 0 1 = cc in omega arith)
  answer_rises x y Equal Equal e f l = omega arith
  answer_rises x y Equal Greater e f l = omega arith
  answer_rises x y Greater Less e f l = absurd (let t = sym (o.trans x y k l f) ∙ e in let z : ◌≡◌ {A = ℕ} 0 1 = cc in omega arith)
  answer_rises x y Greater Equal e f l = absurd (let t = sym (sym (alike_right o y k x f) ∙ l) ∙ e in let z : ◌≡◌ {A = ℕ} 0 1 = cc in omega arith)
  answer_rises x y Greater Greater e f l = omega arith

module _ {K V : Type 0} (cmp : K → K → Ordering) (o : IsTotalOrder cmp) (k : K) where
  -- an entry before one under k is before k
  pub before_under : (x y : Entry K V) → is_lt (cmp x.key y.key) ≡ true → cmp y.key k ≡ Equal → cmp x.key k ≡ Less
  before_under x y l e = sym (alike_right o y.key k x.key e) ∙ less_of (cmp x.key y.key) l

  found : (xs : List (Entry K V)) (i : ℕ) → ascending cmp xs ≡ true → i < length xs → ((d : Entry K V) → cmp (get_or xs i d).key k ≡ Equal)
      → (any (under cmp k) xs ≡ true) × (prefix_len (before cmp k) xs ≡ i)
  found [] i a h e = absurd (omega (arith, h))
  found (x ∷ xs) zero a h e = let q = e x in (grind arith, grind arith)
  found (x ∷ xs) (suc i) a h e =
      let b = cases_Bool (every (λ y. is_lt (cmp x.key y.key)) xs) in
      let f = found xs i (grind arith) (omega (arith, h)) e in
      let l = before_under x (get_or xs i x) (every_at (λ y. is_lt (cmp x.key y.key)) xs i x (grind arith) (omega (arith, h))) (e x) in
      (grind arith, grind arith)

  gap : (xs : List (Entry K V)) (i : ℕ) → i ≤ length xs → ((j : ℕ) (d : Entry K V) → j < i → cmp (get_or xs j d).key k ≡ Less)
      → ((j : ℕ) (d : Entry K V) → i ≤ j → j < length xs → cmp (get_or xs j d).key k ≡ Greater)
      → (any (under cmp k) xs ≡ false) × (prefix_len (before cmp k) xs ≡ i)
  gap [] zero h l g = (refl, refl)
  gap [] (suc i) h l g = absurd (omega (arith, h))
  gap (x ∷ xs) zero h l g =
      let q = g 0 x (omega arith) (omega arith) in
      let n = gap xs 0 (omega arith) (λ j d w. absurd (omega (arith, w))) (λ j d w v. g (suc j) d (omega arith) (omega (arith, v))) in
      (grind arith, grind arith)
  gap (x ∷ xs) (suc i) h l g =
      let q = l 0 x (omega arith) in
      let n = gap xs i (omega (arith, h)) (λ j d w. l (suc j) d (omega (arith, w))) (λ j d w v. g (suc j) d (omega (arith, w)) (omega (arith, v))) in
      (grind arith, grind arith)

  -- the entries answer Less, then Equal, then Greater
  answers_rise : (xs : List (Entry K V)) → ascending cmp xs ≡ true → IsNonDecreasingBy (λ e. ordering_index (cmp e.key k)) xs
  answers_rise xs a i j d h w = elim (cases_lt i j) [
    | inl l ↦ answer_rises cmp o k (get_or xs i d).key (get_or xs j d).key _ _ refl refl (less_of _ (ascending_at cmp xs i j d a l w))
    | inr g ↦ let e : i ≡ j = omega (arith, h, g) in rw e (omega arith)
  ]

  pub searched : (xs : List (Entry K V)) → ascending cmp xs ≡ true → (r : Result ℕ ℕ) → IsSearchInRange r (length xs) → IsBinarySearchResult (λ e. cmp e.key k) xs r → r ≡ sought cmp k xs
  searched xs a (Ok i) h e = let f = found xs i a h e in grind arith
  searched xs a (Err i) h e =
      let p = e (answers_rise xs a) in
      let f = gap xs i h (λ j d w. p.0 j d (omega arith) w) (λ j d w v. p.1 j d w v) in grind arith

-- the entry at i is the one that passes
pub record Hit {X : Type 0} (test : X → Bool) (xs : List X) (i : ℕ) : Type 0 where
  pub within : i < length xs
  pub some : any test xs ≡ true
  pub found : (x : X) → x ≡ get_or xs i x → first test xs ≡ Some x
  pub left : without test xs ≡ remove xs i
  pub same : (f : X → X) (x : X) → x ≡ get_or xs i x → changed test f xs ≡ set xs i (f x)

-- no entry passes
pub record Missed {X : Type 0} (test : X → Bool) (xs : List X) : Type 0 where
  pub none : any test xs ≡ false
  pub found : first test xs ≡ None
  pub left : without test xs ≡ xs
  pub same : (f : X → X) → changed test f xs ≡ xs

pub missing : {X : Type 0} (test : X → Bool) (xs : List X) → any test xs ≡ false → Missed test xs
missing test [] e = record { none = refl; found = refl; left = refl; same = λ f. refl }
missing test (x ∷ xs) e =
    let b = cases_Bool (test x) in
    let m = missing test xs (grind arith) in
    record { none = e; found = let s = m.found in grind arith; left = let s = m.left in grind arith; same = λ f. let s = m.same f in grind arith }

module _ {K V : Type 0} (cmp : K → K → Ordering) (o : IsTotalOrder cmp) (k : K) where
  -- what is before all of a list is before k, where k stands in the list
  before_any : (x : Entry K V) (xs : List (Entry K V)) → every (λ y. is_lt (cmp x.key y.key)) xs ≡ true → any (under cmp k) xs ≡ true → cmp x.key k ≡ Less
  before_any x [] e a = absurd (let z : ◌≡◌ {A = ℕ} 0 1 = cc in omega arith)
  before_any x (y ∷ ys) e a =
      let l = cases_Bool (is_lt (cmp x.key y.key)) in
      elim (cases_Bool (under cmp k y)) [
        | inl u ↦ before_under cmp o k x y (grind arith) (equal_of (cmp y.key k) u)
        | inr u ↦ before_any x ys (grind arith) (grind arith)
      ]

  hits : (xs : List (Entry K V)) → ascending cmp xs ≡ true → any (under cmp k) xs ≡ true → Hit (under cmp k) xs (prefix_len (before cmp k) xs)
  hits [] a e = absurd (let z : ◌≡◌ {A = ℕ} 0 1 = cc in omega arith)
  hits (x ∷ xs) a e =
      let q = cases_Bool (every (λ y. is_lt (cmp x.key y.key)) xs) in
      elim (cases_Bool (under cmp k x)) [
        | inl u ↦
            let c = equal_of (cmp x.key k) u in
            record { within = rw c (omega arith); some = e; found = λ y h. grind arith; left = rw c refl; same = λ f y h. grind arith }
        | inr u ↦
            let c = before_any x xs (grind arith) (grind arith) in
            let n : 1 + prefix_len (before cmp k) xs ≡ suc (prefix_len (before cmp k) xs) = omega arith in
            let i = hits xs (grind arith) (grind arith) in
            record {
              within = rw c (omega (arith, i.within));
              some = e;
              found = rw (c, n) (λ y h. i.found y h);
              left = rw (c, n) (ap (λ ys. x ∷ ys) i.left);
              same = rw (c, n) (λ f y h. ap (λ ys. x ∷ ys) (i.same f y h));
            }
      ]

  -- xs is the list inside a table, and ys the table
  pub hit : {xs ys : List (Entry K V)} {i : ℕ} → xs ≡ ys → ascending cmp xs ≡ true → Ok i ≡ sought cmp k ys → Hit (under cmp k) xs i
  hit {xs} {ys} {i} v a e =
      let q : Ok i ≡ sought cmp k xs = e ∙ ap (sought cmp k) (sym v) in
      elim (cases_Bool (any (under cmp k) xs)) [
        | inl u ↦ let p : i ≡ prefix_len (before cmp k) xs = grind arith in rw p (hits xs a u)
        | inr u ↦ absurd (let z : ◌≡◌ {A = ℕ} 0 1 = grind arith in omega arith)
      ]

  pub missed : {xs ys : List (Entry K V)} {i : ℕ} → xs ≡ ys → Err i ≡ sought cmp k ys → Missed (under cmp k) xs × (i ≡ prefix_len (before cmp k) xs)
  missed {xs} {ys} {i} v e =
      let q : Err i ≡ sought cmp k xs = e ∙ ap (sought cmp k) (sym v) in
      elim (cases_Bool (any (under cmp k) xs)) [
        | inl u ↦ absurd (let z : ◌≡◌ {A = ℕ} 0 1 = grind arith in omega arith)
        | inr u ↦ (missing (under cmp k) xs u, grind arith)
      ]

module _ {K V : Type 0} (cmp : K → K → Ordering) (k : K) where
  -- what is put at the place that was sought
  pub inserted : (v : V) (xs : List (Entry K V)) (i : ℕ) → i ≡ prefix_len (before cmp k) xs
      → placed (λ e. not (before cmp k e)) (record { key = k; value = v }) xs ≡ insert xs i (record { key = k; value = v })
  inserted v xs i e = placed_at (before cmp k) (record { key = k; value = v }) xs ∙ ap (λ j. insert xs j (record { key = k; value = v })) (sym e)
