-- The path that a text names below a working directory.
use Rattle.std.specs.Prelude.{ℕ, ◌+◌, Bool, not, cond, List, [], ◌∷◌, ◌++◌, length, drop, Some, None, Ok, Err, Option, Result, ◌==◌, nat_le, nat_lt}
use Rattle.std.specs.List.{list_any}
use Rattle.paths.specs.Names.{Names, Text, dots, up, within}

-- The parts of a text between its slashes, where cur is what was read of the first.
abbrev pub parts : Text → Text → List Text
parts cur [] = cur ∷ []
parts cur (b ∷ bs) = cond (b == 47) (cur ∷ parts [] bs) (parts (cur ++ b ∷ []) bs)

-- The parts that begin at a place or behind it; behind the last part there is none.
abbrev pub parts_from : Text → ℕ → List Text
parts_from t at = cond (nat_le at (length t)) (parts [] (drop at t)) []

-- The first of the parts, with its place.
abbrev pub first_part : List Text → ℕ → Option (Text × ℕ)
first_part [] at = None
first_part (n ∷ ns) at = Some (n, at)

-- The place behind the first of the parts and its slash.
abbrev pub behind_part : List Text → ℕ → ℕ
behind_part [] at = at
behind_part (n ∷ ns) at = at + length n + 1

-- The parts behind the first.
abbrev pub other_parts : List Text → List Text
other_parts [] = []
other_parts (n ∷ ns) = ns

-- The parts with their places, where the first begins at a place.
abbrev pub placed_parts : List Text → ℕ → List (Text × ℕ)
placed_parts [] at = []
placed_parts (n ∷ ns) at = (n, at) ∷ placed_parts ns (at + length n + 1)

-- One part of a text: nothing and "." vanish, ".." goes up.
abbrev pub walk : Names → Text → Names
walk p n = cond (dots n) (cond (length n == 2) (up p) p) (n ∷ p)

-- All parts of a text in turn.
abbrev pub walked : Names → List Text → Names
walked p [] = p
walked p (n ∷ ns) = walked (walk p n) ns

-- What follows a leading slash.
abbrev pub below_root : Text → Option Text
below_root [] = None
below_root (b ∷ bs) = cond (b == 47) (Some bs) None

-- An absolute text is walked from "/", any other from the working directory.
abbrev pub walked_from : Option Text → Names → Text → Names
walked_from None cwd t = walked cwd (parts [] t)
walked_from (Some rest) cwd t = walked [] (parts [] rest)

-- The normal form of a text below a working directory.
abbrev pub normalised : Names → Text → Names
normalised cwd t = walked_from (below_root t) cwd t

-- No zero byte stands in the text.
abbrev pub zeroless : Text → Bool
zeroless t = not (list_any (λ b. b == 0) t)

-- A path within the limits, or refusal 4.
abbrev pub limited : Names → Result Names ℕ
limited p = cond (within p) (Ok p) (Err 4)

-- What a text says below a working directory: a path, or the number of its refusal,
-- 1 for more than 64 bytes, 2 for a zero byte, 4 for a path beyond the limits.
abbrev pub read : Names → Text → Result Names ℕ
read cwd t = cond (nat_lt 64 (length t)) (Err 1) (cond (zeroless t) (limited (normalised cwd t)) (Err 2))
