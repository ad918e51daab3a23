-- The order of the texts, a slash lowest, is that of the names.
use Rattle.std.proofs.Common.{◌≡◌, true, ltb, List, [], ◌∷◌, ◌++◌, reverse, refl, ap, ◌∙◌, arith}
use Rattle.std.proofs.lemmas.Bool.{and_parts, cases_Bool}
use Rattle.std.proofs.lemmas.Bool.Decides.{nat_tests}
use Rattle.paths.specs.Names.{Name, Names, render, plain, good}
use Rattle.paths.proofs.Renders.{plains}
use Rattle.paths.proofs.Spells.{spell, render_spell, plains_out}
use Rattle.paths.specs.Bytes.{keyed}
use Rattle.std.specs.Ordering.{ordering_then}
use Rattle.std.specs.Cmp.Lexicographic.{slice_cmp}
use Rattle.paths.specs.Order.{order_name, order_path}

keyed_names : (n m : Name) (p q : List Name) → plain n ≡ true → plain m ≡ true → keyed (n ++ spell p) (m ++ spell q) ≡ ordering_then (order_name n m) (keyed (spell p) (spell q))
keyed_names [] [] p q g h = refl
keyed_names [] (b ∷ m) [] q g h = refl
keyed_names [] (b ∷ m) (x ∷ p) q g h = grind (arith, nat_tests)
keyed_names (a ∷ n) [] p [] g h = refl
keyed_names (a ∷ n) [] p (x ∷ q) g h = grind (arith, nat_tests)
keyed_names (a ∷ n) (b ∷ m) p q g h =
    let i = keyed_names n m p q in
    let l = cases_Bool (ltb a b) in
    let r = cases_Bool (ltb b a) in
    grind (arith, nat_tests)

keyed_spell : (p q : List Name) → plains p ≡ true → plains q ≡ true → keyed (spell p) (spell q) ≡ slice_cmp order_name p q
keyed_spell [] [] g h = refl
keyed_spell [] (m ∷ q) g h = refl
keyed_spell (n ∷ p) [] g h = refl
keyed_spell (n ∷ p) (m ∷ q) g h =
    let a = and_parts (plain n) (plains p) g in
    let b = and_parts (plain m) (plains q) h in
    keyed_names n m p q a.0 b.0 ∙ ap (ordering_then (order_name n m)) (keyed_spell p q a.1 b.1)

pub keyed_render : (p q : Names) → good p ≡ true → good q ≡ true → keyed (render p) (render q) ≡ order_path p q
keyed_render p q g h =
    ap (λ t. keyed t (render q)) (render_spell p) ∙ (ap (keyed (spell (reverse p))) (render_spell q) ∙ keyed_spell (reverse p) (reverse q) (plains_out p [] g refl) (plains_out q [] h refl))
