-- What the methods of a table answer of its entries, and what they make of them. The keys are told apart and ordered by cmp.
use Rattle.std.specs.Prelude.{ℕ, Bool, cond, not, List, Ok, Err, Option, Result}
use Rattle.std.specs.List.{prefix_len}
use Rattle.std.specs.Option.{option_map}
use Rattle.std.specs.Ordering.{is_eq, is_lt}
use Rattle.std.specs.declared.cmp.Ordering.{Ordering}
use Rattle.tables.specs.declared.full.NoPlace.{NoPlace}
use Rattle.tables.specs.declared.entry.Entry.{Entry}
use Rattle.tables.specs.Lists.{any, first, changed, placed, ascends}
use Rattle.tables.specs.Room.{fitted}

module _ {K V : Type 0} (cmp : K → K → Ordering) (k : K) where
  -- whether an entry stands under the key k
  abbrev pub under : Entry K V → Bool
  under e = is_eq (cmp e.key k)

  -- whether an entry's key comes before k
  abbrev pub before : Entry K V → Bool
  before e = is_lt (cmp e.key k)

  -- the value under the key
  abbrev pub held : List (Entry K V) → Option V
  held xs = option_map (λ e. e.value) (first under xs)

  -- the value under the key, changed by f
  abbrev pub revalued : (V → V) → List (Entry K V) → List (Entry K V)
  revalued f xs = changed under (λ e. record { key = e.key; value = f e.value }) xs

-- each entry's key is before the keys of all that follow it
abbrev pub ascending : {K V : Type 0} → (K → K → Ordering) → List (Entry K V) → Bool
ascending cmp xs = ascends (λ a b. is_lt (cmp a.key b.key)) xs

-- The reply and the list after a value is entered under a key. Where the key stands, only its value is replaced, in a full list too;
-- else the entry is put before the first that is not before it.
abbrev pub entered : {K V : Type 0} → (K → K → Ordering) → ℕ → K → V → List (Entry K V) → Result (Unit {0}) NoPlace × List (Entry K V)
entered cmp n k v xs =
    cond (any (under cmp k) xs) (Ok tt, revalued cmp k (λ _. v) xs)
    (fitted n xs (placed (λ e. not (before cmp k e)) (record { key = k; value = v }) xs))

-- The place of the entry under k, or else the place that it would be put at.
abbrev pub sought : {K V : Type 0} → (K → K → Ordering) → K → List (Entry K V) → Result ℕ ℕ
sought cmp k xs = cond (any (under cmp k) xs) (Ok (prefix_len (before cmp k) xs)) (Err (prefix_len (before cmp k) xs))
