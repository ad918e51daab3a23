-- To be a path or lie below it is a partial order.
use Rattle.std.proofs.Common.{◌≡◌, ◌≢◌, ℕ, ◌<◌, true, false, ◌⊎◌, Bool, Decides, eqb, ◌==◌, List, [], ◌∷◌, ◌++◌, length, reverse, get_or, sym, refl, ap, ◌∙◌, subst, inl, inr, arith}
use Rattle.std.proofs.lemmas.Bool.{cases_Bool, cond-true, cond-false, eqb-true}
use Rattle.std.proofs.lemmas.Bool.Decides.{same_from_decides, Decides-eqb}
use Rattle.std.proofs.lemmas.List.{append_assoc, append-nil, append_cancel_left}
use Rattle.paths.specs.Names.{Name, Names, Text, same_path, starts_with, good, render}
use Rattle.paths.specs.Bytes.{byte, grow, parse}
use Rattle.paths.specs.Laws.{PartialOrder}
use Rattle.paths.specs.Equal.{same_path_true, same_path_same}
use Rattle.paths.proofs.Renders.{grow_append, parse_render}
use Rattle.paths.proofs.Spells.{spell, render_spell}

below_same : (p : Names) → starts_with p p ≡ true
below_same [] = refl
below_same (n ∷ p) = cond-true (same_path (n ∷ p) (n ∷ p)) true (starts_with p (n ∷ p)) (same_path_same (n ∷ p))

-- what lies below a path is that path, or lies below it a name further up
below_step : (n : List ℕ) (p q : Names) → starts_with (n ∷ p) q ≡ true → ((n ∷ p) ≡ q) ⊎ (starts_with p q ≡ true)
below_step n p q h =
    elim (cases_Bool (same_path (n ∷ p) q)) [
      | inl t ↦ inl (same_path_true (n ∷ p) q t)
      | inr t ↦ inr (sym (cond-false (same_path (n ∷ p) q) true (starts_with p q) t) ∙ h)
    ]

below_more : (n : List ℕ) (p q : Names) → starts_with p q ≡ true → starts_with (n ∷ p) q ≡ true
below_more n p q h =
    elim (cases_Bool (same_path (n ∷ p) q)) [
      | inl t ↦ cond-true (same_path (n ∷ p) q) true (starts_with p q) t
      | inr t ↦ cond-false (same_path (n ∷ p) q) true (starts_with p q) t ∙ h
    ]

below_transitive : (p q r : Names) → starts_with p q ≡ true → starts_with q r ≡ true → starts_with p r ≡ true
below_transitive [] q r h k = subst (λ x. starts_with x r ≡ true) (sym (same_path_true [] q h)) k
below_transitive (n ∷ p) q r h k =
    elim (below_step n p q h) [
      | inl e ↦ subst (λ x. starts_with x r ≡ true) (sym e) k
      | inr i ↦ below_more n p r (below_transitive p q r i k)
    ]

below_longer : (p q : Names) → starts_with p q ≡ true → (p ≡ q) ⊎ (length q < length p)
below_longer [] q h = inl (same_path_true [] q h)
below_longer (n ∷ p) q h =
    elim (below_step n p q h) [
      | inl e ↦ inl e
      | inr i ↦ elim (below_longer p q i) [
        | inl e ↦ inr (let l = ap length e in omega arith)
        | inr lt ↦ inr (omega arith)
      ]
    ]

below_antisymmetric : (p q : Names) → starts_with p q ≡ true → starts_with q p ≡ true → p ≡ q
below_antisymmetric p q h k =
    elim (below_longer p q h) [
      | inl e ↦ e
      | inr a ↦ elim (below_longer q p k) [ inl e ↦ sym e | inr b ↦ absurd (omega arith) ]
    ]

pub partial_order : PartialOrder
partial_order = record { reflexive = below_same; transitive = below_transitive; antisymmetric = below_antisymmetric }

pub below_added : (r q : Names) → starts_with (r ++ q) q ≡ true
below_added [] q = below_same q
below_added (n ∷ r) q = below_more n (r ++ q) q (below_added r q)

-- what lies below a path has more names inside
pub below_parts : (p q : Names) → starts_with p q ≡ true → (r : Names) × (p ≡ r ++ q)
below_parts [] q h = ([], same_path_true [] q h)
below_parts (n ∷ p) q h =
    elim (below_step n p q h) [
      | inl e ↦ ([], e)
      | inr i ↦ let b = below_parts p q i in (n ∷ b.0, ap (λ x. n ∷ x) b.1)
    ]

render_added : (r q : Names) → render (r ++ q) ≡ render q ++ render r
render_added [] q = sym (append-nil (render q))
render_added (n ∷ r) q = ap (λ x. x ++ 47 ∷ n) (render_added r q) ∙ append_assoc (render q) (render r) (47 ∷ n)

-- the text of a name begins with a slash
spell_first : (ns : List Name) → get_or (spell ns) 0 47 ≡ 47
spell_first [] = refl
spell_first (n ∷ ns) = refl

-- the text of what lies below a path goes on from the path's with a slash, or ends with it
below_text : (p q : Names) → starts_with p q ≡ true → (t : Text) × (render p ≡ render q ++ t) × (get_or t 0 47 ≡ 47)
below_text p q h =
    let b = below_parts p q h in
    (render b.0, ap render b.1 ∙ render_added b.0 q, ap (λ t. get_or t 0 47) (render_spell b.0) ∙ spell_first (reverse b.0))

-- more of the text gives the names inside
grow_on : (t : Text) (n : Name) (q : Names) → (r : Names) × (grow (n ∷ q) t ≡ r ++ q)
grow_on [] n q = (n ∷ [], refl)
grow_on (b ∷ t) n q =
    elim (cases_Bool (eqb b 47)) [
      | inl e ↦
          let i = grow_on t [] (n ∷ q) in
          (i.0 ++ n ∷ [], ap (λ x. grow x t) (cond-true (eqb b 47) ([] ∷ n ∷ q) ((n ++ b ∷ []) ∷ q) e) ∙ (i.1 ∙ sym (append_assoc i.0 (n ∷ []) q)))
      | inr e ↦
          let i = grow_on t (n ++ b ∷ []) q in
          (i.0, ap (λ x. grow x t) (cond-false (eqb b 47) ([] ∷ n ∷ q) ((n ++ b ∷ []) ∷ q) e) ∙ i.1)
    ]

-- and so what goes on like that lies below
text_below : (p q : Names) (t : Text) → good p ≡ true → good q ≡ true → render p ≡ render q ++ t → get_or t 0 47 ≡ 47 → starts_with p q ≡ true
text_below p q [] g h e f =
    let same : p ≡ q = sym (parse_render p g) ∙ (ap parse (e ∙ append-nil (render q)) ∙ parse_render q h) in
    subst (λ x. starts_with x q ≡ true) (sym same) (below_same q)
text_below p q (b ∷ t) g h e f =
    let i = grow_on t [] q in
    let slash : grow q (b ∷ t) ≡ i.0 ++ q = ap (λ x. grow x t) (ap (λ x. byte x q) f) ∙ i.1 in
    let whole : p ≡ i.0 ++ q = sym (parse_render p g) ∙ (ap parse e ∙ (grow_append (render q) (b ∷ t) [] ∙ (ap (λ x. grow x (b ∷ t)) (parse_render q h) ∙ slash))) in
    subst (λ x. starts_with x q ≡ true) (sym whole) (below_added i.0 q)

-- where the text goes on from that of q with t
pub starts_by_text : (p q : Names) (s u t : Text) (r : Bool) → good p ≡ true → good q ≡ true → s ≡ render p → u ≡ render q → s ≡ u ++ t → Decides r (get_or t 0 47 ≡ 47) → r ≡ starts_with p q
starts_by_text p q s u t r g h a b e d =
    same_from_decides r (starts_with p q) d (
      (λ w.
          let x = below_text p q w in
          let same : t ≡ x.0 = append_cancel_left u t x.0 (sym e ∙ (a ∙ (x.1 ∙ ap (λ y. y ++ x.0) (sym b)))) in
          ap (λ y. get_or y 0 47) same ∙ x.2),
      (λ f. text_below p q t g h (sym a ∙ (e ∙ ap (λ y. y ++ t) b)) f),
    )

-- nothing goes on
pub text_ends : (t : Text) (r : Bool) → true ≡ (length t == 0) → r ≡ true → Decides r (get_or t 0 47 ≡ 47)
text_ends [] r e f = ((λ k. refl), (λ k. f))
text_ends (b ∷ t) r e f = absurd (let z = eqb-true (length (b ∷ t)) 0 (sym e) in omega arith)

-- something goes on
pub text_opens : (t : Text) → false ≡ (length t == 0) → Decides (eqb (get_or t 0 0) 47) (get_or t 0 47 ≡ 47)
text_opens [] e = absurd (cc)
text_opens (b ∷ t) e = Decides-eqb b 47

-- where it does not
pub starts_other : (p q : Names) (s u : Text) → s ≡ render p → u ≡ render q → ((t : Text) → s ≢ u ++ t) → false ≡ starts_with p q
starts_other p q s u a b f =
    elim (cases_Bool (starts_with p q)) [
      | inl h ↦ let w = below_text p q h in absurd (f w.0 (a ∙ (w.1 ∙ ap (λ x. x ++ w.0) (sym b))))
      | inr h ↦ sym h
    ]
