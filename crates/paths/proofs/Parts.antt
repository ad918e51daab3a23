-- What the first part of a text says of its place and its length.
use Rattle.std.proofs.Common.{◌≡◌, ℕ, ◌+◌, ◌≤◌, Bool, not, cond, eqb, leb, ltb, List, [], ◌∷◌, ◌++◌, length, map, take, drop, refl, Some, None, Option, sym, ap, ◌∙◌, inl, inr, arith}
use Rattle.std.proofs.lemmas.List.{append-nil, append_assoc, drop-drop, length-append, length-drop, length-take-le}
use Rattle.std.proofs.lemmas.Bool.{cases_Bool, cond-true, cond-false, leb-true, leb-false, le-leb, lt-leb, ltb-false}
use Rattle.std.proofs.lemmas.Bool.Decides.{nat_tests}
use Rattle.std.specs.List.{position_or_len}
use Rattle.std.specs.Option.{unwrap_or}
use Rattle.std.proofs.lemmas.List.Sums.{prefix_len-le-length}
use Rattle.paths.specs.Names.{Text}
use Rattle.paths.specs.Texts.{parts, parts_from, placed_parts}

abbrev pub is_slash : ℕ → Bool
is_slash b = eqb b 47

-- a text parts at its first slash
parts_first : (t cur : Text) → parts cur t ≡ (cur ++ take (position_or_len is_slash t) t) ∷ parts_from t (position_or_len is_slash t + 1)
parts_first [] cur = ap (λ x. x ∷ []) (sym (append-nil cur))
parts_first (b ∷ t) cur =
    let i = parts_first t (cur ++ b ∷ []) in
    let n = append-nil cur in
    let c = cases_Bool (eqb b 47) in
    grind (arith, nat_tests, append_assoc)

-- the bytes of the parts, with a slash behind each
abbrev pub spread : List Text → ℕ
spread [] = 0
spread (n ∷ ns) = length n + 1 + spread ns

pub spread_parts : (t cur : Text) → spread (parts cur t) ≡ length cur + length t + 1
spread_parts [] cur = omega arith
spread_parts (b ∷ t) cur =
    let i = spread_parts t [] in
    let j = spread_parts t (cur ++ b ∷ []) in
    let l = length-append cur (b ∷ []) in
    let c = cases_Bool (eqb b 47) in
    grind (arith, nat_tests)

unplaced : (ns : List Text) (at : ℕ) → map (λ (x : Text × ℕ). x.0) (placed_parts ns at) ≡ ns
unplaced [] at = refl
unplaced (n ∷ ns) at = ap (λ x. n ∷ x) (unplaced ns (at + length n + 1))

-- the part that a cursor gives, and those that are left
pub part_next : (ns ms : List Text) (at on : ℕ) (x : Text × ℕ) → placed_parts ns at ≡ x ∷ placed_parts ms on → ns ≡ x.0 ∷ ms
part_next ns ms at on x e = sym (unplaced ns at) ∙ (ap (map (λ (y : Text × ℕ). y.0)) e ∙ ap (λ y. x.0 ∷ y) (unplaced ms on))

pub no_part : (ns : List Text) (at : ℕ) → placed_parts ns at ≡ [] → ns ≡ []
no_part ns at e = sym (unplaced ns at) ∙ ap (map (λ (y : Text × ℕ). y.0)) e

found : (t : Text) (r : Option ℕ) → r ≡ cond (ltb (position_or_len is_slash t) (length t)) (Some (position_or_len is_slash t)) None → unwrap_or r (length t) ≡ position_or_len is_slash t
found t r e =
    let w = prefix_len-le-length (λ b. not (is_slash b)) t in
    elim (cases_Bool (ltb (position_or_len is_slash t) (length t))) [
      | inl h ↦ ap (λ x. unwrap_or x (length t)) (e ∙ cond-true (ltb (position_or_len is_slash t) (length t)) _ _ h)
      | inr h ↦ ap (λ x. unwrap_or x (length t)) (e ∙ cond-false (ltb (position_or_len is_slash t) (length t)) _ _ h) ∙ omega (arith, ltb-false (position_or_len is_slash t) (length t) h)
    ]

-- the parts of the rest of a text are those of the text
parts_on : (t : Text) (at k : ℕ) → at ≤ length t → parts_from (drop at t) k ≡ parts_from t (at + k)
parts_on t at k l =
    let n = length-drop at t in
    elim (cases_Bool (leb k (length (drop at t)))) [
      | inl h ↦
          let w = leb-true k (length (drop at t)) h in
          cond-true (leb k (length (drop at t))) _ _ h ∙ (ap (parts []) (drop-drop k at t) ∙ sym (cond-true (leb (at + k) (length t)) _ _ (le-leb (at + k) (length t) (omega arith))))
      | inr h ↦
          let w = leb-false k (length (drop at t)) h in
          cond-false (leb k (length (drop at t))) _ _ h ∙ sym (cond-false (leb (at + k) (length t)) _ _ (lt-leb (at + k) (length t) (omega arith)))
    ]

-- the parts that begin at a place of a text, by the first slash behind it
pub part_at : (t rest : Text) (at n : ℕ) (r : Option ℕ) → at ≤ length t → rest ≡ drop at t →
    r ≡ cond (ltb (position_or_len is_slash rest) (length rest)) (Some (position_or_len is_slash rest)) None → n ≡ unwrap_or r (length rest) →
    (parts_from t at ≡ take n rest ∷ parts_from t (at + n + 1)) × (length (take n rest) ≡ n)
part_at t rest at n r l e f h =
    let m : n ≡ position_or_len is_slash rest = h ∙ found rest r f in
    let w = prefix_len-le-length (λ b. not (is_slash b)) rest in
    let a : parts_from t at ≡ parts [] rest = cond-true (leb at (length t)) _ _ (le-leb at (length t) l) ∙ ap (parts []) (sym e) in
    let b : parts [] rest ≡ take n rest ∷ parts_from rest (n + 1) = parts_first rest [] ∙ ap (λ k. take k rest ∷ parts_from rest (k + 1)) (sym m) in
    let d : parts_from rest (n + 1) ≡ parts_from t (at + (n + 1)) = ap (λ x. parts_from x (n + 1)) e ∙ parts_on t at (n + 1) l in
    let i : at + (n + 1) ≡ at + n + 1 = omega arith in
    (a ∙ (b ∙ (ap (λ x. take n rest ∷ x) d ∙ ap (λ k. take n rest ∷ parts_from t k) i)), length-take-le n rest (omega arith))
