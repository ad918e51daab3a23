-- A path is the list of its names, the innermost first: [] is "/", and n ∷ p is the child n of p.
use Rattle.std.specs.Prelude.{ℕ, Bool, true, false, cond, not, ◌&&◌, List, [], ◌∷◌, ◌++◌, length, Some, None, Option, ◌==◌, nat_eq, nat_le, nat_lt}
use Rattle.std.specs.List.{list_all}
use Rattle.std.specs.Cmp.Lexicographic.{pointwise}

-- A name is its bytes.
abbrev pub Name : Type 0
Name = List ℕ

-- The names of a path, the innermost first.
abbrev pub Names : Type 0
Names = List Name

-- Bytes as a caller gives them.
abbrev pub Text : Type 0
Text = List ℕ

-- A slash and the name, for each name from the outermost on.
abbrev pub render : Names → Text
render [] = []
render (n ∷ p) = render p ++ 47 ∷ n

-- The text of a path: that of no name is "/".
abbrev pub text : Names → Text
text [] = 47 ∷ []
text (n ∷ p) = render (n ∷ p)

-- No slash and no zero byte.
abbrev pub plain : Text → Bool
plain = list_all (λ b. not (b == 47) && not (b == 0))

-- Nothing, "." or "..".
abbrev pub dots : Text → Bool
dots [] = true
dots (a ∷ []) = a == 46
dots (a ∷ b ∷ []) = a == 46 && b == 46
dots (a ∷ b ∷ c ∷ n) = false

-- What may be a name.
abbrev pub named : Text → Bool
named n = plain n && not (dots n)

-- The name that a text spells: none where it may not be one, or has more than 255 bytes.
abbrev pub name_of : Text → Option Name
name_of n = cond (nat_lt 255 (length n)) None (cond (named n) (Some n) None)

-- Each of them may be a name.
abbrev pub good : Names → Bool
good [] = true
good (n ∷ p) = named n && good p

-- At most 8 names and 64 bytes.
abbrev pub within : Names → Bool
within p = nat_le (length p) 8 && nat_le (length (text p)) 64

-- The directory above; "/" is its own.
abbrev pub up : Names → Names
up [] = []
up (n ∷ p) = p

-- The innermost name; "/" has none.
abbrev pub last : Names → Option Name
last [] = None
last (n ∷ p) = Some n

-- Byte by byte.
abbrev pub same_name : Name → Name → Bool
same_name = pointwise nat_eq

-- Name by name.
abbrev pub same_path : Names → Names → Bool
same_path = pointwise same_name

-- p is q or lies below it.
abbrev pub starts_with : Names → Names → Bool
starts_with [] q = same_path [] q
starts_with (n ∷ p) q = cond (same_path (n ∷ p) q) true (starts_with p q)
