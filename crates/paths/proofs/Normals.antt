-- A normal form has nothing but names, and its text reads back.
use Rattle.std.proofs.Common.{◌≡◌, ℕ, ◌<◌, true, false, not, eqb, ltb, leb, List, [], ◌∷◌, ◌++◌, length, reverse, Some, None, Option, sym, refl, ap, ◌∙◌, arith}
use Rattle.std.proofs.lemmas.List.{append_assoc, append-nil, length-reverse}
use Rattle.std.proofs.lemmas.Bool.{and_parts, cases_Bool, cond-true, cond-false}
use Rattle.std.proofs.lemmas.Bool.Decides.{nat_tests}
use Rattle.paths.specs.Names.{Name, Names, Text, render, text, plain, dots, named, good, within}
use mathlib.Core.List.{reverse_aux}
use Rattle.paths.specs.Texts.{parts, walk, walked, below_root, walked_from, normalised, zeroless, limited}
use Rattle.paths.specs.Laws.{NormalForm, ReadsBack}
use Rattle.paths.proofs.Renders.{plains, parts_plain}
use Rattle.paths.proofs.Spells.{spell, render_spell, plains_out}

walk_good : (p : Names) (n : Text) → good p ≡ true → plain n ≡ true → good (walk p n) ≡ true
walk_good [] n g h = let d = cases_Bool (dots n) in let t = cases_Bool (eqb (length n) 2) in grind arith
walk_good (m ∷ p) n g h = let d = cases_Bool (dots n) in let t = cases_Bool (eqb (length n) 2) in let b = and_parts (named m) (good p) g in grind arith

walked_good : (ns : List Text) (p : Names) → good p ≡ true → plains ns ≡ true → good (walked p ns) ≡ true
walked_good [] p g h = g
walked_good (n ∷ ns) p g h =
    let b = and_parts (plain n) (plains ns) h in
    walked_good ns (walk p n) (walk_good p n g b.0) b.1

below_zeroless : (text rest : Text) → Some rest ≡ below_root text → zeroless text ≡ true → zeroless rest ≡ true
below_zeroless [] rest e h = absurd (let z : ◌≡◌ {A = ℕ} 0 1 = cc in omega arith)
below_zeroless (b ∷ bs) rest e h =
    let t = cases_Bool (eqb b 47) in
    grind arith

from_good : (r : Option Text) (cwd : Names) (t : Text) → r ≡ below_root t → good cwd ≡ true → zeroless t ≡ true → good (walked_from r cwd t) ≡ true
from_good None cwd t e g z = walked_good (parts [] t) cwd g (parts_plain t [] z refl)
from_good (Some rest) cwd t e g z = walked_good (parts [] rest) [] refl (parts_plain rest [] (below_zeroless t rest e z) refl)

normal_good : (cwd : Names) (t : Text) → good cwd ≡ true → zeroless t ≡ true → good (normalised cwd t) ≡ true
normal_good cwd t g z = from_good (below_root t) cwd t refl g z

-- a name is walked down
walk_down : (p : Names) (n : Name) → named n ≡ true → walk p n ≡ n ∷ p
walk_down p n h = let b = and_parts (plain n) (not (dots n)) h in let d = cases_Bool (dots n) in grind arith

walked_out : (p acc : Names) → good p ≡ true → walked [] (reverse_aux p acc) ≡ walked p acc
walked_out [] acc g = refl
walked_out (n ∷ p) acc g =
    let b = and_parts (named n) (good p) g in
    walked_out p (n ∷ acc) b.1 ∙ ap (λ x. walked x acc) (walk_down p n b.0)

parts_spell : (ns : List Name) (n cur : Name) → plain n ≡ true → plains ns ≡ true → parts cur (n ++ spell ns) ≡ (cur ++ n) ∷ ns
parts_spell [] [] cur h k = ap (λ x. x ∷ []) (sym (append-nil cur))
parts_spell (m ∷ ns) [] cur h k =
    let b = and_parts (plain m) (plains ns) k in
    let i = parts_spell ns m [] b.0 b.1 in
    ap (λ x. cur ∷ x) i ∙ ap (λ x. x ∷ m ∷ ns) (sym (append-nil cur))
parts_spell ns (b ∷ n) cur h k =
    let i = parts_spell ns n (cur ++ b ∷ []) in
    let t = cases_Bool (eqb b 47) in
    grind (arith, append_assoc)

normal_spell : (ns : List Name) (below : Names) → plains ns ≡ true → 0 < length ns → normalised below (spell ns) ≡ walked [] ns
normal_spell [] below h l = absurd (omega arith)
normal_spell (n ∷ ns) below h l =
    let b = and_parts (plain n) (plains ns) h in
    ap (walked []) (parts_spell ns n [] b.0 b.1)

pub normal_text : (p below : Names) → good p ≡ true → normalised below (text p) ≡ p
normal_text [] below g = refl
normal_text (n ∷ p) below g =
    let l = length-reverse (n ∷ p) in
    ap (normalised below) (render_spell (n ∷ p)) ∙ (normal_spell (reverse (n ∷ p)) below (plains_out (n ∷ p) [] g refl) (omega arith) ∙ walked_out (n ∷ p) [] g)

pub normal_form : NormalForm
normal_form cwd t g z =
    let h = normal_good cwd t g z in
    (h, λ below. normal_text (normalised cwd t) below h)

zeroless_append : (t u : Text) → zeroless t ≡ true → zeroless u ≡ true → zeroless (t ++ u) ≡ true
zeroless_append [] u h k = k
zeroless_append (b ∷ t) u h k = let i = zeroless_append t u in let c = cases_Bool (eqb b 0) in grind arith

plain_zeroless : (n : Name) → plain n ≡ true → zeroless n ≡ true
plain_zeroless [] h = refl
plain_zeroless (b ∷ n) h = let i = plain_zeroless n in let c = cases_Bool (eqb b 0) in let d = cases_Bool (eqb b 47) in grind arith

render_zeroless : (p : Names) → good p ≡ true → zeroless (render p) ≡ true
render_zeroless [] g = refl
render_zeroless (n ∷ p) g =
    let b = and_parts (named n) (good p) g in
    let m = and_parts (plain n) _ b.0 in
    zeroless_append (render p) (47 ∷ n) (render_zeroless p b.1) (plain_zeroless n m.0)

text_zeroless : (p : Names) → good p ≡ true → zeroless (text p) ≡ true
text_zeroless [] g = refl
text_zeroless (n ∷ p) g = render_zeroless (n ∷ p) g

pub reads_back : ReadsBack
reads_back p below g w =
    let z = text_zeroless p g in
    let n = normal_text p below g in
    let b = and_parts (leb (length p) 8) (leb (length (text p)) 64) w in
    let s : ltb 64 (length (text p)) ≡ false = grind (arith, nat_tests) in
    cond-false (ltb 64 (length (text p))) _ _ s ∙ (cond-true (zeroless (text p)) _ _ z ∙ (ap limited n ∙ cond-true (within p) _ _ w))
