-- How the bytes of a value hold a path or a name.
use Rattle.std.specs.Prelude.{◌≡◌, ℕ, ◌+◌, ◌-◌, ◌≤◌, true, cond, [], ◌∷◌, ◌++◌, length, take, drop, replicate, ◌==◌, map, Some, None, Option}
use Rattle.std.specs.declared.cmp.Ordering.{Ordering}
use Rattle.std.specs.Ordering.{nat_cmp}
use Rattle.std.specs.Cmp.Lexicographic.{slice_cmp}
use Rattle.paths.specs.Names.{Names, Text, render, good, named}

-- One byte more of the innermost name.
abbrev pub more : ℕ → Names → Names
more b [] = (b ∷ []) ∷ []
more b (n ∷ p) = (n ++ b ∷ []) ∷ p

-- One byte more of the text: a slash opens a name.
abbrev pub byte : ℕ → Names → Names
byte b p = cond (b == 47) ([] ∷ p) (more b p)

abbrev pub grow : Names → Text → Names
grow p [] = p
grow p (b ∷ bs) = grow (byte b p) bs

-- The names that stand in a rendered text.
abbrev pub parse : Text → Names
parse bs = grow [] bs

-- Those bytes, and zeros up to the size.
abbrev pub filled : ℕ → Text → Text
filled size t = t ++ replicate (size - length t) 0

-- The rendered text of a path, and zeros up to the size.
abbrev pub padded : ℕ → Names → Text
padded size p = filled size (render p)

-- Those bytes, that length and that depth hold the path p.
abbrev pub Holds : ℕ → Text → ℕ → ℕ → Names → Type 0
Holds size bytes len depth p =
    (bytes ≡ padded size p) × (len ≡ length (render p)) × (len ≤ size) × (depth ≡ length p) × (good p ≡ true)

-- They hold the path that they say.
abbrev pub Sound : ℕ → Text → ℕ → ℕ → Type 0
Sound size bytes len depth = Holds size bytes len depth (parse (take len bytes))

-- The first len of those bytes may be a name, and zeros follow.
abbrev pub Spelt : ℕ → Text → ℕ → Type 0
Spelt size bytes len =
    (bytes ≡ filled size (take len bytes)) × (len ≡ length (take len bytes)) × (len ≤ size) × (named (take len bytes) ≡ true)

-- A slash and the name n written at len.
abbrev pub grown : Text → ℕ → Text → Text
grown bytes len n = take len bytes ++ (47 ∷ (n ++ drop (len + 1 + length n) bytes))

-- Nothing but zeros from k on.
abbrev pub trimmed : Text → ℕ → Text
trimmed bytes k = take k bytes ++ replicate (length bytes - k) 0

-- The place of the last slash in the rendered text of a path.
abbrev pub slash_at : Names → Option ℕ
slash_at [] = None
slash_at (n ∷ p) = Some (length (render p))

-- A slash comes before any byte of a name.
abbrev pub key : ℕ → ℕ
key b = cond (b == 47) 0 b

-- Texts by their keys, a beginning first.
abbrev pub keyed : Text → Text → Ordering
keyed t u = slice_cmp nat_cmp (map key t) (map key u)
