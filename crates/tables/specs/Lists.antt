-- What the methods of a bounded list answer of it, and what they make of it.
use Rattle.std.specs.Prelude.{Bool, true, false, cond, List, [], ◌∷◌, Some, None, Option}
pub use Rattle.std.specs.List.{list_any as any, list_all as every, find as first}

module _ {X : Type 0} (test : X → Bool) where
  -- the first entry that passes is changed by f
  abbrev pub changed : (X → X) → List X → List X
  changed f [] = []
  changed f (x ∷ xs) = cond (test x) (f x ∷ xs) (x ∷ changed f xs)

  -- the first entry that passes is gone
  abbrev pub without : List X → List X
  without [] = []
  without (x ∷ xs) = cond (test x) xs (x ∷ without xs)

  -- y is put before the first entry that passes, or last
  abbrev pub placed : X → List X → List X
  placed y [] = y ∷ []
  placed y (x ∷ xs) = cond (test x) (y ∷ x ∷ xs) (x ∷ placed y xs)

-- each entry is before all that follow it
abbrev pub ascends : {X : Type 0} → (X → X → Bool) → List X → Bool
ascends before [] = true
ascends before (x ∷ xs) = cond (every (before x) xs) (ascends before xs) false

-- the entry in front
abbrev pub head : {X : Type 0} → List X → Option X
head [] = None
head (x ∷ xs) = Some x

-- the entries behind it
abbrev pub tail : {X : Type 0} → List X → List X
tail [] = []
tail (x ∷ xs) = xs
