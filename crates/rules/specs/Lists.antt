-- Tables and lists: what the definitions say of them.
use Rattle.std.specs.Prelude.{ℕ, Bool, true, false, cond, not, List, [], ◌∷◌, map, length, nat_lt}
use Rattle.std.specs.declared.cmp.Ordering.{Ordering}
use Rattle.tables.specs.declared.entry.Entry.{Entry}
use Rattle.tables.specs.Entries.{under}
use Rattle.tables.specs.Lists.{any, placed}

-- A table has entries, each a key with its value, ascending by key and no key twice.
abbrev pub Table : Type 0 → Type 0 → Type 0
Table K V = List (Entry K V)

-- A set is a table without values.
abbrev pub Set : Type 0 → Type 0
Set K = Table K (Unit {0})

-- The key stands in the table.
abbrev pub has : {K V : Type 0} → (K → K → Ordering) → K → Table K V → Bool
has order k xs = any (under order k) xs

-- There is a place for the key: its own, or a free one.
abbrev pub has_place : {K V : Type 0} → ℕ → (K → K → Ordering) → K → Table K V → Bool
has_place limit order k xs = cond (has order k xs) true (nat_lt (length xs) limit)

-- The keys in their order.
abbrev pub keys : {K V : Type 0} → Table K V → List K
keys xs = map (λ e. e.key) xs

-- x stands before the first entry that is not before it.
abbrev pub put : {X : Type 0} → (X → X → Bool) → X → List X → List X
put before x xs = placed (λ y. not (before y x)) x xs

-- The same entries in order; of two that are alike the earlier stays the earlier.
abbrev pub sorted : {X : Type 0} → (X → X → Bool) → List X → List X
sorted before [] = []
sorted before (x ∷ xs) = put before x (sorted before xs)

-- Nothing stands in the list.
abbrev pub empty : {X : Type 0} → List X → Bool
empty [] = true
empty (x ∷ xs) = false
