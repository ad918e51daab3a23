-- What keeps a list ascending.
use Rattle.std.proofs.Common.{◌≡◌, Bool, true, false, not, List, [], ◌∷◌, filter, refl, ◌∙◌, inl, inr, arith}
use Rattle.std.proofs.lemmas.Bool.{cases_Bool}
use Rattle.std.specs.List.{items_where_true}
use Rattle.tables.specs.Lists.{any, every, changed, without, placed, ascends}

module _ {X : Type 0} (p : X → Bool) where
  pub every_kept : (t : X → Bool) (xs : List X) → every p xs ≡ true → every p (filter t xs) ≡ true
  every_kept t [] e = refl
  every_kept t (x ∷ xs) e =
      let b = cases_Bool (p x) in let q = cases_Bool (t x) in
      let i = every_kept t xs (grind arith) in
      grind arith

  pub every_where : (bs : List Bool) (xs : List X) → every p xs ≡ true → every p (items_where_true bs xs) ≡ true
  every_where [] xs e = refl
  every_where (b ∷ bs) [] e = refl
  every_where (b ∷ bs) (x ∷ xs) e =
      let q = cases_Bool (p x) in let c = cases_Bool b in
      let i = every_where bs xs (grind arith) in
      grind arith

  pub every_without : (t : X → Bool) (xs : List X) → every p xs ≡ true → every p (without t xs) ≡ true
  every_without t [] e = refl
  every_without t (x ∷ xs) e =
      let b = cases_Bool (p x) in let q = cases_Bool (t x) in
      let i = every_without t xs (grind arith) in
      grind arith

  pub every_placed : (t : X → Bool) (y : X) (xs : List X) → p y ≡ true → every p xs ≡ true → every p (placed t y xs) ≡ true
  every_placed t y [] h e = grind arith
  every_placed t y (x ∷ xs) h e =
      let b = cases_Bool (p x) in let q = cases_Bool (t x) in
      let i = every_placed t y xs h (grind arith) in
      grind arith

  pub every_changed : (t : X → Bool) (f : X → X) → ((x : X) → p (f x) ≡ p x) → (xs : List X) → every p (changed t f xs) ≡ every p xs
  every_changed t f h [] = refl
  every_changed t f h (x ∷ xs) =
      let b = h x in let q = cases_Bool (t x) in
      let i = every_changed t f h xs in
      grind arith

  pub every_weaker : (q : X → Bool) → ((x : X) → p x ≡ true → q x ≡ true) → (xs : List X) → every p xs ≡ true → every q xs ≡ true
  every_weaker q h [] e = refl
  every_weaker q h (x ∷ xs) e =
      let b = cases_Bool (p x) in
      let i = every_weaker q h xs (grind arith) in
      let s = h x (grind arith) in
      grind arith

module _ {X : Type 0} (before : X → X → Bool) where
  pub ascends_where : (bs : List Bool) (xs : List X) → ascends before xs ≡ true → ascends before (items_where_true bs xs) ≡ true
  ascends_where [] xs e = refl
  ascends_where (b ∷ bs) [] e = refl
  ascends_where (b ∷ bs) (x ∷ xs) e =
      let q = cases_Bool (every (before x) xs) in let c = cases_Bool b in
      let i = ascends_where bs xs (grind arith) in
      let k = every_where (before x) bs xs (grind arith) in
      grind arith

  pub ascends_kept : (t : X → Bool) (xs : List X) → ascends before xs ≡ true → ascends before (filter t xs) ≡ true
  ascends_kept t [] e = refl
  ascends_kept t (x ∷ xs) e =
      let b = cases_Bool (every (before x) xs) in let q = cases_Bool (t x) in
      let i = ascends_kept t xs (grind arith) in
      let k = every_kept (before x) t xs (grind arith) in
      grind arith

  pub ascends_without : (t : X → Bool) (xs : List X) → ascends before xs ≡ true → ascends before (without t xs) ≡ true
  ascends_without t [] e = refl
  ascends_without t (x ∷ xs) e =
      let b = cases_Bool (every (before x) xs) in let q = cases_Bool (t x) in
      let i = ascends_without t xs (grind arith) in
      let k = every_without (before x) t xs (grind arith) in
      grind arith

  -- f leaves what the order looks at
  pub ascends_changed : (t : X → Bool) (f : X → X) → ((x y : X) → before (f x) y ≡ before x y) → ((x y : X) → before x (f y) ≡ before x y) → (xs : List X) → ascends before xs ≡ true → ascends before (changed t f xs) ≡ true
  ascends_changed t f l r [] e = refl
  ascends_changed t f l r (x ∷ xs) e =
      let b = cases_Bool (every (before x) xs) in let q = cases_Bool (t x) in
      let i = ascends_changed t f l r xs (grind arith) in
      let k = every_changed (before x) t f (r x) xs in
      let m = every_weaker (before x) (before (f x)) (λ y h. l x y ∙ h) xs (grind arith) in
      grind arith

  -- y is put before the first entry that is not before it, and no entry is the same
  pub ascends_placed : (same : X → Bool) (y : X) → ((a b c : X) → before a b ≡ true → before b c ≡ true → before a c ≡ true) → ((x : X) → same x ≡ false → before x y ≡ false → before y x ≡ true)
      → (xs : List X) → any same xs ≡ false → ascends before xs ≡ true → ascends before (placed (λ x. not (before x y)) y xs) ≡ true
  ascends_placed same y trans total [] n e = refl
  ascends_placed same y trans total (x ∷ xs) n e =
      let s = cases_Bool (same x) in let q = cases_Bool (every (before x) xs) in
      elim (cases_Bool (before x y)) [
        | inl b ↦
            let i = ascends_placed same y trans total xs (grind arith) (grind arith) in
            let k = every_placed (before x) (λ z. not (before z y)) y xs b (grind arith) in
            grind arith
        | inr b ↦
            let l = total x (grind arith) b in
            let k = every_weaker (before x) (before y) (λ z h. trans y x z l h) xs (grind arith) in
            grind arith
      ]
