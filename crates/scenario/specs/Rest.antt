-- What is left of a line behind a word: nothing, or what stands behind the space that ends the word.
use Rattle.std.specs.Prelude.{ℕ, ◌+◌, List, [], length, Some, None, Option}
use Rattle.std.specs.Borrow.{Bor}
use Rattle.scenario.specs.Words.{words}

-- its length, with that space
abbrev pub rest_len : Option (Bor (List ℕ)) → ℕ
rest_len None = 0
rest_len (Some l) = length l.now + 1

abbrev pub rest_words : Option (Bor (List ℕ)) → List (List ℕ)
rest_words None = []
rest_words (Some l) = words l.now
