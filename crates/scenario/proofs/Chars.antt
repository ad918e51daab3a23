-- What a word stands for, by its characters.
use Rattle.std.proofs.Common.{◌≡◌, ℕ, ◌<◌, ◌≤◌, true, cond, List, [], ◌∷◌, ◌++◌, length, map, is_some, ◌==◌, Some, None, Option, IsSome, refl, sym, ap, ◌∙◌, arith, rules}
use Rattle.std.specs.List.{flat_map, list_all}
use Rattle.std.specs.Option.{option_to_list}
use Rattle.std.proofs.lemmas.Bool.{cases_Bool}
use Rattle.std.proofs.lemmas.Bool.Decides.{nat_tests}
use Rattle.std.proofs.lemmas.List.{length-append, length-map}
use Rattle.std.proofs.lemmas.List.Folds.{list_all-append}
use Rattle.scenario.specs.Escapes.{nibble, paired, before, alone, chars, read, plain}

-- the bytes, where each stands for one
abbrev gathered : List (Option ℕ) → Option (List ℕ)
gathered cs = cond (list_all is_some cs) (Some (flat_map option_to_list cs)) None

gathered_more : (c : Option ℕ) (cs : List (Option ℕ)) → gathered (c ∷ cs) ≡ before c (gathered cs)
gathered_more None cs = refl
gathered_more (Some b) cs =
    let t = cases_Bool (list_all is_some cs) in
    grind arith

read_chars : (w : List ℕ) → read w ≡ gathered (chars w)
read_chars [] = refl
read_chars (b ∷ []) =
    let t = cases_Bool (plain b) in
    grind (arith, nat_tests)
read_chars (b ∷ h ∷ []) =
    let t = cases_Bool (plain b) in
    let u = cases_Bool (plain h) in
    grind (arith, nat_tests)
read_chars (b ∷ h ∷ l ∷ bs) =
    let i = read_chars bs in
    let j = read_chars (h ∷ l ∷ bs) in
    let m = gathered_more (paired (nibble h) (nibble l)) (chars bs) in
    let n = gathered_more (alone b) (chars (h ∷ l ∷ bs)) in
    let t = cases_Bool (plain b) in
    let u = cases_Bool (b == 37) in
    grind (arith, nat_tests)

pub readable : (w : List ℕ) → is_some (read w) ≡ list_all is_some (chars w)
readable w =
    let r = read_chars w in
    let t = cases_Bool (list_all is_some (chars w)) in
    grind arith

-- where all characters stand for bytes, each does
pub one_stands : (w : List ℕ) (cs : List (Option ℕ)) (c : Option ℕ) (ds : List (Option ℕ)) → is_some (read w) ≡ true → cs ++ c ∷ ds ≡ chars w → IsSome c
one_stands w cs (Some b) ds h e = search rules
one_stands w cs None ds h e =
    let r = readable w in
    let t = list_all-append is_some cs (None ∷ ds) in
    let u = cases_Bool (list_all is_some cs) in
    absurd (grind arith)

chars_within : (w : List ℕ) → length (chars w) ≤ length w
chars_within [] = omega arith
chars_within (b ∷ []) = omega arith
chars_within (b ∷ h ∷ []) = omega arith
chars_within (b ∷ h ∷ l ∷ bs) =
    let i = chars_within bs in
    let j = chars_within (h ∷ l ∷ bs) in
    grind (arith, nat_tests)

-- where one more character is left, the bytes so far are fewer than the word's
pub one_fits : (w bs : List ℕ) (c : Option ℕ) (ds : List (Option ℕ)) → map Some bs ++ c ∷ ds ≡ chars w → length bs < length w
one_fits w bs c ds e =
    let n = chars_within w in
    let m = length-map bs Some in
    omega (arith, simp length-append at (ap length e))

gathered_all : (bs : List ℕ) → gathered (map Some bs) ≡ Some bs
gathered_all [] = refl
gathered_all (b ∷ bs) = gathered_more (Some b) (map Some bs) ∙ ap (before (Some b)) (gathered_all bs)

-- the text is what its characters stand for
pub read_whole : (w bs : List ℕ) → map Some bs ≡ chars w → read w ≡ Some bs
read_whole w bs e = read_chars w ∙ ap gathered (sym e) ∙ gathered_all bs
