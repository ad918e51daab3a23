-- What a walk over a line's words gives, and what it has yet to give.
use Rattle.std.specs.Prelude.{ℕ, List, [], ◌∷◌, Some, None, Option}
use Rattle.scenario.specs.declared.line.Word.{Word}
use Rattle.scenario.specs.declared.line.Words.{Words}
use Rattle.scenario.specs.Words.{placed}
use Rattle.scenario.specs.Rest.{rest_words}

-- a word's column and its bytes
abbrev pub seen : Word → ℕ × List ℕ
seen w = (w.column, w.bytes.now)

-- the words that a walk has yet to give
abbrev pub yet : Words → List (ℕ × List ℕ)
yet w = placed w.column (rest_words w.left)

abbrev pub head : {X : Type 0} → List X → Option X
head [] = None
head (x ∷ xs) = Some x

abbrev pub tail : {X : Type 0} → List X → List X
tail [] = []
tail (x ∷ xs) = xs
