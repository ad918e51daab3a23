-- Lists seen through a view f of their entries.
use Rattle.std.proofs.Common.{◌≡◌, ℕ, Bool, ltb, List, [], ◌∷◌, map, length, filter, refl, arith}
use Rattle.std.proofs.lemmas.List.{length-map}
use Rattle.std.proofs.lemmas.List.Folds.{list_all-map}
use Rattle.std.proofs.lemmas.Bool.{cases_Bool}
use Rattle.std.specs.Option.{option_map}
use Rattle.tables.specs.Lists.{any, first, changed, without, placed, ascends, head, tail}
use Rattle.tables.specs.Room.{fitted}

module _ {X Y : Type 0} (f : X → Y) where
  pub any_map : (t : Y → Bool) (xs : List X) → any (λ x. t (f x)) xs ≡ any t (map f xs)
  any_map t [] = refl
  any_map t (x ∷ xs) = let i = any_map t xs in let b = cases_Bool (t (f x)) in grind arith

  pub first_map : (t : Y → Bool) (xs : List X) → option_map f (first (λ x. t (f x)) xs) ≡ first t (map f xs)
  first_map t [] = refl
  first_map t (x ∷ xs) = let i = first_map t xs in let b = cases_Bool (t (f x)) in grind arith

  pub map_kept : (t : Y → Bool) (xs : List X) → map f (filter (λ x. t (f x)) xs) ≡ filter t (map f xs)
  map_kept t [] = refl
  map_kept t (x ∷ xs) = let i = map_kept t xs in let b = cases_Bool (t (f x)) in grind arith

  pub map_without : (t : Y → Bool) (xs : List X) → map f (without (λ x. t (f x)) xs) ≡ without t (map f xs)
  map_without t [] = refl
  map_without t (x ∷ xs) = let i = map_without t xs in let b = cases_Bool (t (f x)) in grind arith

  pub map_placed : (t : Y → Bool) (y : X) (xs : List X) → map f (placed (λ x. t (f x)) y xs) ≡ placed t (f y) (map f xs)
  map_placed t y [] = refl
  map_placed t y (x ∷ xs) = let i = map_placed t y xs in let b = cases_Bool (t (f x)) in grind arith

  pub map_changed : (t : Y → Bool) (g : X → X) (h : Y → Y) → ((x : X) → f (g x) ≡ h (f x)) → (xs : List X) → map f (changed (λ x. t (f x)) g xs) ≡ changed t h (map f xs)
  map_changed t g h e [] = refl
  map_changed t g h e (x ∷ xs) = let i = map_changed t g h e xs in let b = cases_Bool (t (f x)) in let q = e x in grind arith

  pub ascends_map : (lt : Y → Y → Bool) (xs : List X) → ascends (λ a b. lt (f a) (f b)) xs ≡ ascends lt (map f xs)
  ascends_map lt [] = refl
  ascends_map lt (x ∷ xs) = let i = ascends_map lt xs in let e = list_all-map (lt (f x)) f xs in grind arith

  pub head_map : (xs : List X) → option_map f (head xs) ≡ head (map f xs)
  head_map [] = refl
  head_map (x ∷ xs) = refl

  pub map_tail : (xs : List X) → map f (tail xs) ≡ tail (map f xs)
  map_tail [] = refl
  map_tail (x ∷ xs) = refl

  -- The reply is the same, and the list is the one seen: e says how ys is seen, by map_push, map_placed or refl.
  pub fitted_map : (n : ℕ) (xs ys : List X) {zs : List Y} → map f ys ≡ zs → ((fitted n xs ys).0 ≡ (fitted n (map f xs) zs).0) × (map f (fitted n xs ys).1 ≡ (fitted n (map f xs) zs).1)
  fitted_map n xs ys {zs} e =
      let l = length-map xs f in
      let b = cases_Bool (ltb (length xs) n) in
      (grind arith, grind arith)
