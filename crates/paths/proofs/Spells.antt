-- The text of a path from the outermost name on.
use Rattle.std.proofs.Common.{◌≡◌, true, List, [], ◌∷◌, ◌++◌, reverse, sym, refl, ◌∙◌}
use mathlib.Core.List.{reverse_aux}
use Rattle.std.proofs.lemmas.List.{append_assoc, append-nil}
use Rattle.std.proofs.lemmas.Bool.{and_parts, and_from}
use Rattle.paths.specs.Names.{Name, Names, Text, render, plain, named, good}
use Rattle.paths.proofs.Renders.{plains}

abbrev pub spell : List Name → Text
spell [] = []
spell (n ∷ p) = 47 ∷ (n ++ spell p)

spell_out : (p acc : Names) → spell (reverse_aux p acc) ≡ render p ++ spell acc
spell_out [] acc = refl
spell_out (n ∷ p) acc = spell_out p (n ∷ acc) ∙ sym (append_assoc (render p) (47 ∷ n) (spell acc))

pub render_spell : (p : Names) → render p ≡ spell (reverse p)
render_spell p = sym (spell_out p [] ∙ append-nil (render p))

pub plains_out : (p acc : Names) → good p ≡ true → plains acc ≡ true → plains (reverse_aux p acc) ≡ true
plains_out [] acc g h = h
plains_out (n ∷ p) acc g h =
    let both = and_parts (named n) (good p) g in
    let mine = and_parts (plain n) _ both.0 in
    plains_out p (n ∷ acc) both.1 (and_from (plain n) (plains acc) mine.0 h)
