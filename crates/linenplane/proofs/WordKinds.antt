-- The commands of a line's first word, kind by kind.
use Rattle.std.proofs.Common.{◌≡◌, ◌∙◌, ap, sym, ℕ, true, false, cond, List, [], ◌∷◌, ◌++◌, map, Option, Some, option_map, codes, refl}
use Rattle.std.specs.Option.{option_or}
use Rattle.std.specs.Str.{bytes_eq}
use Rattle.linenplane.specs.Commands.{beside, under, KindByKind, backend_words, scanner_words, filter_words, question_words, call_words}
use Rattle.linenplane.specs.declared.commands.Command.{Command}
use Rattle.linenplane.specs.declared.commands.Command.TheVariants.{Scenario, Backend, Scanner, Filter as Filtering, Ask, Call}

or_cond : {A : Type 0} (b : _) (x : A) (y z : Option A) → option_or (cond b (Some x) y) z ≡ cond b (Some x) (option_or y z)
or_cond true x y z = refl
or_cond false x y z = refl

map_cond : {A B : Type 0} (f : A → B) (b : _) (x : A) (y : Option A) → option_map f (cond b (Some x) y) ≡ cond b (Some (f x)) (option_map f y)
map_cond f true x y = refl
map_cond f false x y = refl

-- of two tables the first is asked first
both : {A : Type 0} (w : List ℕ) (xs ys : List (List ℕ × A)) → beside w (xs ++ ys) ≡ option_or (beside w xs) (beside w ys)
both w [] ys = refl
both w (x ∷ xs) ys = ap (λ o. cond (bytes_eq w x.0) (Some x.1) o) (both w xs ys) ∙ sym (or_cond (bytes_eq w x.0) x.1 (beside w xs) (beside w ys))

kind : {A B : Type 0} (f : A → B) (w : List ℕ) (xs : List (List ℕ × A)) → beside w (under f xs) ≡ option_map f (beside w xs)
kind f w [] = refl
kind f w (x ∷ xs) = ap (λ o. cond (bytes_eq w x.0) (Some (f x.1)) o) (kind f w xs) ∙ sym (map_cond f (bytes_eq w x.0) x.1 (beside w xs))

-- a table of one kind, and then the others
next : {A : Type 0} (f : A → Command) (w : List ℕ) (xs : List (List ℕ × A)) (ys : List (List ℕ × Command)) → beside w (under f xs ++ ys) ≡ option_or (option_map f (beside w xs)) (beside w ys)
next f w xs ys = both w (under f xs) ys ∙ ap (λ o. option_or o (beside w ys)) (kind f w xs)

pub kind_by_kind : KindByKind
kind_by_kind w =
    let calls = map (λ c. (c, Call)) call_words in
    let asked = under Ask question_words ++ calls in
    let filtered = under Filtering filter_words ++ asked in
    let scanned = under Scanner scanner_words ++ filtered in
    ap (cond (bytes_eq w (codes "scenario")) (Some Scenario)) (next Backend w backend_words scanned
    ∙ ap (option_or (option_map Backend (beside w backend_words))) (next Scanner w scanner_words filtered
    ∙ ap (option_or (option_map Scanner (beside w scanner_words))) (next Filtering w filter_words asked
    ∙ ap (option_or (option_map Filtering (beside w filter_words))) (next Ask w question_words calls))))
