-- The items for a path, one row after another.
use Rattle.std.proofs.Common.{◌≡◌, ℕ, zero, suc, ◌+◌, ◌-◌, ◌<◌, Bool, true, false, cond, List, ◌∷◌, map, length, get_or, drop, Some, filter, Option, ap, sym, ◌∙◌, arith}
use Rattle.std.specs.List.{slice_get}
use Rattle.std.proofs.lemmas.List.{drop_more}
use Rattle.outside.specs.Answers.{ListingItem}
use Rattle.paths.specs.Names.{Names, same_path}
use Rattle.tables.specs.declared.entry.Entry.{Entry}
use Rattle.sheet.specs.Rows.{items_for}

-- the item of that number for p among the rows
abbrev pub item_in : Names → List (Entry Names ListingItem) → ℕ → Option ListingItem
item_in p xs k = slice_get (items_for p xs) k

-- the row at a place, and those behind it
module _ (p : Names) (xs : List (Entry Names ListingItem)) (i : ℕ) (x : Entry Names ListingItem) (lt : i < length xs) (is : x ≡ get_or xs i x) where
  abbrev rest : List (Entry Names ListingItem)
  rest = filter (λ e. same_path e.key p) (drop (i + 1) xs)

  -- the items for p, where b says whether the row at i is for it
  abbrev behind : Bool → List ListingItem
  behind b = map (λ e. e.value) (cond b (x ∷ rest) rest)

  split : (b : Bool) (k : ℕ) → b ≡ same_path x.key p → item_in p (drop i xs) k ≡ slice_get (behind b) k
  split b k e =
      ap (λ ys. item_in p ys k) (drop_more xs i x lt ∙ ap (λ y. y ∷ drop (i + 1) xs) (sym is))
      ∙ ap (λ t. slice_get (behind t) k) (sym e)

  pub turn_other : (k : ℕ) → false ≡ same_path x.key p → item_in p (drop i xs) k ≡ item_in p (drop (i + 1) xs) k
  turn_other k e = split false k e

  pub turn_found : (k : ℕ) → k ≡ 0 → true ≡ same_path x.key p → item_in p (drop i xs) k ≡ Some x.value
  turn_found zero z e = split true zero e
  turn_found (suc k) z e = absurd (omega arith)

  pub turn_passed : (k : ℕ) → 0 < k → true ≡ same_path x.key p → item_in p (drop i xs) k ≡ item_in p (drop (i + 1) xs) (k - 1)
  turn_passed zero z e = absurd (omega arith)
  turn_passed (suc k) z e = split true (suc k) e ∙ ap (item_in p (drop (i + 1) xs)) (omega arith)
