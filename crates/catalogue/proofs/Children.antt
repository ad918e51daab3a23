-- The children of a directory by number: the node of that number among those with a name to give, then its name.
use Rattle.std.proofs.Common.{◌≡◌, ℕ, zero, suc, List, [], ◌∷◌, Option, Some, None, filter, filter_map, is_some, refl, arith}
use Rattle.std.specs.List.{slice_get}

module _ {A B : Type 0} (f : A → Option B) where
  -- what f makes of an entry that was found
  abbrev pub of_found : Option A → Option B
  of_found None = None
  of_found (Some x) = f x

  pub by_node : (xs : List A) (n : ℕ) → slice_get (filter_map f xs) n ≡ of_found (slice_get (filter (λ x. is_some (f x)) xs) n)
  by_node [] n = refl
  by_node (x ∷ xs) n =
      let i : (k : ℕ) → slice_get (filter_map f xs) k ≡ of_found (slice_get (filter (λ y. is_some (f y)) xs) k) = by_node xs in
      step (f x) n i refl
    where
      step : (o : Option B) (k : ℕ) → ((k : ℕ) → slice_get (filter_map f xs) k ≡ of_found (slice_get (filter (λ y. is_some (f y)) xs) k)) → f x ≡ o → slice_get (filter_map f (x ∷ xs)) k ≡ of_found (slice_get (filter (λ y. is_some (f y)) (x ∷ xs)) k)
      step None k i e = grind arith
      step (Some y) zero i e = grind arith
      step (Some y) (suc k) i e = let j = i k in grind arith
