-- What makes a key lawful, and what follows. Keys of two parts, the first of which decides, are lawful where both parts are.
use Rattle.std.specs.Prelude.{◌≡◌, ℕ, Bool, true, false, cond, ◌&&◌, refl}
use Rattle.std.proofs.Common.{inl, inr, arith}
use Rattle.std.proofs.lemmas.Bool.{cases_Bool}
use Rattle.std.specs.Ordering.{ordering_then}
use Rattle.std.specs.declared.cmp.Ordering.TheVariants.{Less, Equal, Greater}
use Rattle.std.specs.declared.cmp.Ordering.{Ordering}

-- The laws of a key: what is the same, and what comes before what.
pub record Lawful {K : Type 0} (same before : K → K → Bool) : Type 0 where
  pub reflexive : (a : K) → same a a ≡ true
  pub apart : (a b c : K) → same a c ≡ true → same b c ≡ true → before a b ≡ false
  pub total : (a b : K) → same a b ≡ false → before a b ≡ false → before b a ≡ true
  pub transitive : (a b c : K) → before a b ≡ true → before b c ≡ true → before a c ≡ true

module _ {K : Type 0} (same before : K → K → Bool) (l : Lawful same before) where
  pub symmetric : (a b : K) → same a b ≡ true → same b a ≡ true
  symmetric a b e =
      elim (cases_Bool (same b a)) [
        | inl s ↦ s
        | inr s ↦
            let r = l.reflexive b in
            let p = l.apart a b b e r in
            let q = l.apart b a b r e in
            let t = l.total b a s q in
            absurd (let z : ◌≡◌ {A = ℕ} 0 1 = cc in omega arith)
      ]

  -- neither before the other, so the same
  pub equal : (a b : K) → before a b ≡ false → before b a ≡ false → same a b ≡ true
  equal a b p q =
      elim (cases_Bool (same a b)) [
        | inl s ↦ s
        | inr s ↦ let t = l.total a b s p in absurd (let z : ◌≡◌ {A = ℕ} 0 1 = cc in omega arith)
      ]

  pub same_same : (a b c : K) → same a b ≡ true → same b c ≡ true → same a c ≡ true
  same_same a b c e f =
      let g = symmetric b c f in
      equal a c (l.apart a c b e g) (l.apart c a b g e)

  pub same_before : (a b c : K) → same a b ≡ true → before b c ≡ true → before a c ≡ true
  same_before a b c e f =
      elim (cases_Bool (before a c)) [
        | inl s ↦ s
        | inr s ↦
            elim (cases_Bool (same a c)) [
              | inl q ↦
                  let x = symmetric a b e in
                  let y = same_same b a c x q in
                  let z = l.apart b c c y (l.reflexive c) in
                  absurd (let z : ◌≡◌ {A = ℕ} 0 1 = cc in omega arith)
              | inr q ↦
                  let x = l.total a c q s in
                  let y = l.transitive b c a f x in
                  let z = l.apart b a b (l.reflexive b) e in
                  absurd (let z : ◌≡◌ {A = ℕ} 0 1 = cc in omega arith)
            ]
      ]

  pub before_same : (a b c : K) → before a b ≡ true → same b c ≡ true → before a c ≡ true
  before_same a b c e f =
      elim (cases_Bool (before a c)) [
        | inl s ↦ s
        | inr s ↦
            elim (cases_Bool (same a c)) [
              | inl q ↦
                  let x = l.apart a b c q f in
                  absurd (let z : ◌≡◌ {A = ℕ} 0 1 = cc in omega arith)
              | inr q ↦
                  let x = l.total a c q s in
                  let y = l.transitive c a b x e in
                  let z = l.apart c b c (l.reflexive c) f in
                  absurd (let z : ◌≡◌ {A = ℕ} 0 1 = cc in omega arith)
            ]
      ]

module _ {K A B : Type 0} (f : K → A) (g : K → B) (sa ba : A → A → Bool) (sb bb : B → B → Bool) where
  abbrev both : K → K → Bool
  both x y = sa (f x) (f y) && sb (g x) (g y)

  abbrev first_decides : K → K → Bool
  first_decides x y = cond (sa (f x) (f y)) (bb (g x) (g y)) (ba (f x) (f y))

  pub lawful_pair : Lawful sa ba → Lawful sb bb → Lawful both first_decides
  lawful_pair l m = record {
    reflexive = λ a. let p = l.reflexive (f a) in let q = m.reflexive (g a) in grind arith;
    apart = λ a b c e h.
        let s = cases_Bool (sa (f a) (f c)) in let t = cases_Bool (sa (f b) (f c)) in
        let p = l.apart (f a) (f b) (f c) in let q = m.apart (g a) (g b) (g c) in
        let u = cases_Bool (sa (f a) (f b)) in
        grind arith;
    total = λ a b e h.
        elim (cases_Bool (sa (f a) (f b))) [
          | inl s ↦
              let t = symmetric sa ba l (f a) (f b) s in
              let p = m.total (g a) (g b) in
              grind arith
          | inr s ↦
              let t = cases_Bool (sa (f b) (f a)) in
              let u = symmetric sa ba l (f b) (f a) in
              let p = l.total (f a) (f b) s in
              grind arith
        ];
    transitive = λ a b c e h.
        elim (cases_Bool (sa (f a) (f b))) [
          | inl s ↦
              elim (cases_Bool (sa (f b) (f c))) [
                | inl t ↦
                    let u = same_same sa ba l (f a) (f b) (f c) s t in
                    let p = m.transitive (g a) (g b) (g c) in
                    grind arith
                | inr t ↦
                    let p = same_before sa ba l (f a) (f b) (f c) s in
                    let u = cases_Bool (sa (f a) (f c)) in
                    let v : sa (f a) (f c) ≡ true → sa (f b) (f c) ≡ true = λ w. same_same sa ba l (f b) (f a) (f c) (symmetric sa ba l (f a) (f b) s) w in
                    grind arith
              ]
          | inr s ↦
              elim (cases_Bool (sa (f b) (f c))) [
                | inl t ↦
                    let p = before_same sa ba l (f a) (f b) (f c) in
                    let u = cases_Bool (sa (f a) (f c)) in
                    let v : sa (f a) (f c) ≡ true → sa (f a) (f b) ≡ true = λ w. same_same sa ba l (f a) (f c) (f b) w (symmetric sa ba l (f b) (f c) t) in
                    grind arith
                | inr t ↦
                    let p = l.transitive (f a) (f b) (f c) in
                    let u = cases_Bool (sa (f a) (f c)) in
                    let x : sa (f a) (f c) ≡ true → ba (f a) (f c) ≡ false = λ w. l.apart (f a) (f c) (f c) w (l.reflexive (f c)) in
                    grind arith
              ]
        ];
  }

-- by whether it is the same, and whether it is before
abbrev pub ranked : Bool → Bool → Ordering
ranked same before = cond same Equal (cond before Less Greater)

-- the first decides unless it finds them the same
pub ranked_pair : (sa ba sb bb : Bool) → ranked (sa && sb) (cond sa bb ba) ≡ ordering_then (ranked sa ba) (ranked sb bb)
ranked_pair true ba true bb = refl
ranked_pair true ba false bb = refl
ranked_pair false true sb bb = refl
ranked_pair false false sb bb = refl
