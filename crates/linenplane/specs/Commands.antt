-- Which word begins which command.
use Rattle.std.specs.Prelude.{◌≡◌, ℕ, cond, List, [], ◌∷◌, ◌++◌, map, Some, None, codes, Option, option_map}
use Rattle.std.specs.Option.{option_or}
use Rattle.std.specs.Str.{bytes_eq}
use Rattle.linenplane.specs.declared.commands.Command.{Command}
use Rattle.linenplane.specs.declared.commands.Command.TheVariants.{Scenario, Backend, Scanner, Filter as Filtering, Ask, Call}
use Rattle.linenplane.specs.declared.commands.BackendCommand.{BackendCommand}
use Rattle.linenplane.specs.declared.commands.BackendCommand.TheVariants.{Board, Roll, Answer}
use Rattle.linenplane.specs.declared.commands.ScannerCommand.{ScannerCommand}
use Rattle.linenplane.specs.declared.commands.ScannerCommand.TheVariants.{Catalogue, Sheet, Dir, File, Link, Strike, Class, List as Listing, Unlist}
use Rattle.linenplane.specs.declared.commands.FilterCommand.{FilterCommand}
use Rattle.linenplane.specs.declared.commands.FilterCommand.TheVariants.{Filter, Deny, Balk, Faults}
use Rattle.linenplane.specs.declared.commands.Question.{Question}
use Rattle.linenplane.specs.declared.commands.Question.TheVariants.{Look, Items, Watch, Unwatch, Fill, Verdict}

-- What stands beside a word in a table.
abbrev pub beside : {C : Type 0} → List ℕ → List (List ℕ × C) → Option C
beside w [] = None
beside w (r ∷ rs) = cond (bytes_eq w r.0) (Some r.1) (beside w rs)

-- A table whose commands are each one of another kind.
abbrev pub under : {C D : Type 0} → (C → D) → List (List ℕ × C) → List (List ℕ × D)
under f rows = map (λ r. (r.0, f r.1)) rows

-- The commands for the backend.
abbrev pub backend_words : List (List ℕ × BackendCommand)
backend_words = (codes "board", Board) ∷ (codes "roll", Roll) ∷ (codes "answer", Answer) ∷ []

-- The commands for the rows of a sheet.
abbrev pub row_words : List (List ℕ × ScannerCommand)
row_words = (codes "class", Class) ∷ (codes "list", Listing) ∷ (codes "unlist", Unlist) ∷ []

-- The commands for the scanner.
abbrev pub scanner_words : List (List ℕ × ScannerCommand)
scanner_words =
    (codes "catalogue", Catalogue) ∷ (codes "sheet", Sheet) ∷ (codes "dir", Dir) ∷ (codes "file", File)
    ∷ (codes "link", Link) ∷ (codes "strike", Strike) ∷ row_words

-- The commands for the filterer and the room for faults.
abbrev pub filter_words : List (List ℕ × FilterCommand)
filter_words = (codes "filter", Filter) ∷ (codes "deny", Deny) ∷ (codes "balk", Balk) ∷ (codes "faults", Faults) ∷ []

-- The direct questions.
abbrev pub question_words : List (List ℕ × Question)
question_words =
    (codes "look", Look) ∷ (codes "items", Items) ∷ (codes "watch", Watch)
    ∷ (codes "unwatch", Unwatch) ∷ (codes "fill", Fill) ∷ (codes "verdict", Verdict) ∷ []

-- The calls of the recursor.
abbrev pub call_words : List (List ℕ)
call_words =
    codes "open" ∷ codes "reconcile" ∷ codes "created" ∷ codes "removed" ∷ codes "doubtful" ∷ codes "renamed"
    ∷ codes "step" ∷ codes "run" ∷ codes "public" ∷ codes "close" ∷ codes "show" ∷ []

-- Each word that begins a line.
abbrev pub words : List (List ℕ × Command)
words =
    (codes "scenario", Scenario)
    ∷ under Backend backend_words ++ under Scanner scanner_words ++ under Filtering filter_words
    ++ under Ask question_words ++ map (λ w. (w, Call)) call_words

-- What the first word of a line asks for.
abbrev pub command : List ℕ → Option Command
command w = beside w words

abbrev pub backend_word : List ℕ → Option BackendCommand
backend_word w = beside w backend_words

abbrev pub scanner_word : List ℕ → Option ScannerCommand
scanner_word w = beside w scanner_words

abbrev pub filter_word : List ℕ → Option FilterCommand
filter_word w = beside w filter_words

abbrev pub question_word : List ℕ → Option Question
question_word w = beside w question_words

-- The kinds of commands are asked for one after another.
abbrev pub KindByKind : Type 0
KindByKind = (w : List ℕ) → command w ≡
    cond (bytes_eq w (codes "scenario")) (Some Scenario)
    (option_or (option_map Backend (backend_word w))
    (option_or (option_map Scanner (scanner_word w))
    (option_or (option_map Filtering (filter_word w))
    (option_or (option_map Ask (question_word w)) (beside w (map (λ c. (c, Call)) call_words))))))
