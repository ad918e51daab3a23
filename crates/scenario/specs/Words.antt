-- A line and its words.
use Rattle.std.specs.Prelude.{ℕ, ◌+◌, Bool, true, List, [], ◌∷◌, length, ◌==◌}
use Rattle.std.specs.List.{slice_split}

-- an empty line, or one that begins with '#'
abbrev pub blank : List ℕ → Bool
blank [] = true
blank (b ∷ bs) = b == 35

abbrev pub space : ℕ → Bool
space b = b == 32

-- the words of a line: each space ends one and begins another
abbrev pub words : List ℕ → List (List ℕ)
words line = slice_split space line

-- each word with the column where it begins, the first at that one
abbrev pub placed : ℕ → List (List ℕ) → List (ℕ × List ℕ)
placed column [] = []
placed column (w ∷ ws) = (column, w) ∷ placed (column + length w + 1) ws
