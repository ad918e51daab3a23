-- A table's entries seen through f at their keys and g at their values.
use Rattle.std.proofs.Common.{◌≡◌, ℕ, not, List, [], ◌∷◌, map, refl, ap, arith}
use Rattle.std.proofs.lemmas.Bool.{cases_Bool}
use Rattle.std.specs.Option.{option_map}
use Rattle.std.specs.Ordering.{is_eq, is_lt, on}
use Rattle.std.specs.declared.cmp.Ordering.{Ordering}
use Rattle.tables.specs.declared.entry.Entry.{Entry}
use Rattle.tables.specs.Entries.{under, before, held, revalued, ascending, entered}
use Rattle.tables.specs.Lists.{any, without, placed}
use Rattle.tables.proofs.Views.{any_map, map_without, map_changed, map_placed, ascends_map, fitted_map}

-- an entry seen through f at its key and g at its value
abbrev pub viewed : {K V K' V' : Type 0} → (K → K') → (V → V') → Entry K V → Entry K' V'
viewed f g e = record { key = f e.key; value = g e.value }

module _ {K V K' V' : Type 0} (f : K → K') (g : V → V') (cmp : K' → K' → Ordering) (k : K) where
  pub any_seen : (xs : List (Entry K V)) → any (under (on f cmp) k) xs ≡ any (under cmp (f k)) (map (viewed f g) xs)
  any_seen xs = any_map (viewed f g) (under cmp (f k)) xs

  pub held_seen : (xs : List (Entry K V)) → option_map g (held (on f cmp) k xs) ≡ held cmp (f k) (map (viewed f g) xs)
  held_seen [] = refl
  held_seen (x ∷ xs) = let i = held_seen xs in let b = cases_Bool (is_eq (cmp (f x.key) (f k))) in grind arith

  pub without_seen : (xs : List (Entry K V)) → map (viewed f g) (without (under (on f cmp) k) xs) ≡ without (under cmp (f k)) (map (viewed f g) xs)
  without_seen xs = map_without (viewed f g) (under cmp (f k)) xs

  pub revalued_seen : (h : V → V) (h' : V' → V') → ((v : V) → g (h v) ≡ h' (g v)) → (xs : List (Entry K V))
      → map (viewed f g) (revalued (on f cmp) k h xs) ≡ revalued cmp (f k) h' (map (viewed f g) xs)
  revalued_seen h h' e xs = map_changed (viewed f g) (under cmp (f k)) (viewed (λ a. a) h) (viewed (λ a. a) h') (λ x. ap (λ v. record { key = f x.key; value = v }) (e x.value)) xs

  -- the reply is the same, and the list is the one seen
  pub entered_seen : (n : ℕ) (v : V) (xs : List (Entry K V))
      → ((entered (on f cmp) n k v xs).0 ≡ (entered cmp n (f k) (g v) (map (viewed f g) xs)).0)
      × (map (viewed f g) (entered (on f cmp) n k v xs).1 ≡ (entered cmp n (f k) (g v) (map (viewed f g) xs)).1)
  entered_seen n v xs =
      let a = any_seen xs in
      let r = revalued_seen (λ _. v) (λ _. g v) (λ _. refl) xs in
      let p = map_placed (viewed f g) (λ e. not (before cmp (f k) e)) (record { key = k; value = v }) xs in
      let w = fitted_map (viewed f g) n xs (placed (λ e. not (before (on f cmp) k e)) (record { key = k; value = v }) xs) p in
      let b = cases_Bool (any (under cmp (f k)) (map (viewed f g) xs)) in
      (grind arith, grind arith)

pub ascending_seen : {K V K' V' : Type 0} (f : K → K') (g : V → V') (cmp : K' → K' → Ordering) (xs : List (Entry K V))
    → ascending (on f cmp) xs ≡ ascending cmp (map (viewed f g) xs)
ascending_seen f g cmp xs = ascends_map (viewed f g) (λ a b. is_lt (cmp a.key b.key)) xs
