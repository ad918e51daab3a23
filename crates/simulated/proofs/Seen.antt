-- Tables seen through the paths that their entries stand under.
use Rattle.std.proofs.Common.{◌≡◌, ℕ, not, ltb, List, [], ◌∷◌, length, filter, refl, arith}
use Rattle.std.proofs.lemmas.List.{length-map}
use Rattle.std.proofs.lemmas.Bool.{cases_Bool}
use Rattle.paths.specs.Names.{Names, same_path}
use Rattle.paths.specs.Order.{before_path, order_path}
use Rattle.paths.specs.Equal.{path_ties}
use Rattle.tables.specs.declared.entry.Entry.{Entry}
use Rattle.tables.specs.Entries.{under, before, entered as entered_in}
use Rattle.tables.specs.Lists.{any, changed, placed}
use Rattle.simulated.specs.Paths.{keys, holds, entered, parted}

module _ (k : Names) where
  pub held_keys : (es : List (Entry Names (Unit {0}))) → any (under order_path k) es ≡ holds k (keys es)
  held_keys [] = refl
  held_keys (e ∷ es) = let t = path_ties e.key k in let i = held_keys es in grind arith

  pub parted_keys : (es : List (Entry Names (Unit {0}))) → keys (filter (λ e. not (under order_path k e)) es) ≡ parted k (keys es)
  parted_keys [] = refl
  parted_keys (e ∷ es) = let t = path_ties e.key k in let i = parted_keys es in let b = cases_Bool (same_path e.key k) in grind arith

  placed_keys : (es : List (Entry Names (Unit {0}))) → keys (placed (λ e. not (before order_path k e)) (record { key = k; value = tt }) es) ≡ placed (λ p. not (before_path p k)) k (keys es)
  placed_keys [] = refl
  placed_keys (e ∷ es) = let i = placed_keys es in let b = cases_Bool (before_path e.key k) in grind arith

  -- an entry that is changed keeps its path
  kept_keys : (es : List (Entry Names (Unit {0}))) → keys (changed (under order_path k) (λ e. record { key = e.key; value = tt }) es) ≡ keys es
  kept_keys [] = refl
  kept_keys (e ∷ es) = let i = kept_keys es in let b = cases_Bool (under order_path k e) in grind arith

-- what a table replies, and the paths that it then has
pub entered_keys : (n : ℕ) (k : Names) (es : List (Entry Names (Unit {0})))
    → ((entered_in order_path n k tt es).0 ≡ (entered n k (keys es)).0) × (keys (entered_in order_path n k tt es).1 ≡ (entered n k (keys es)).1)
entered_keys n k es =
    let a = held_keys k es in let c = kept_keys k es in let p = placed_keys k es in
    let l = length-map es (λ e. e.key) in
    let b = cases_Bool (holds k (keys es)) in
    let f = cases_Bool (ltb (length es) n) in
    (grind arith, grind arith)
