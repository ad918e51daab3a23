-- No followed row is a link after an edit either.
use Rattle.std.proofs.Common.{◌≡◌, ℕ, Bool, true, false, not, List, [], ◌∷◌, length, nat_lt, filter, refl, arith}
use Rattle.std.proofs.lemmas.Bool.{cases_Bool}
use Rattle.paths.specs.Names.{Names}
use Rattle.paths.specs.Order.{order_path}
use Rattle.tables.specs.declared.entry.Entry.{Entry}
use Rattle.tables.specs.Entries.{under, before, entered}
use Rattle.tables.specs.Lists.{any, every, changed}
use Rattle.tables.proofs.Ascents.{every_kept, every_placed}
use Rattle.outside.specs.Answers.{Classified, ListingItem}
use Rattle.sheet.specs.Classes.{is_link}
use Rattle.sheet.specs.Rows.{Heading, Rows}
use Rattle.sheet.specs.Unlinked.{unlinked}

module _ {X : Type 0} (p : X → Bool) where
  every_set : (t : X → Bool) (f : X → X) → ((x : X) → p (f x) ≡ true) → (xs : List X) → every p xs ≡ true → every p (changed t f xs) ≡ true
  every_set t f h [] e = refl
  every_set t f h (x ∷ xs) e =
      let b = cases_Bool (p x) in let q = cases_Bool (t x) in
      let i = every_set t f h xs (grind arith) in
      let s = h x in
      grind arith

pub entered_unlinked : (n : ℕ) (k : Names) (a : Classified) (xs : List (Entry Names Classified)) → is_link a ≡ false → unlinked xs ≡ true → unlinked (entered order_path n k a xs).1 ≡ true
entered_unlinked n k a xs l u =
    let m : not (is_link a) ≡ true = grind arith in
    let s = every_set (λ e. not (is_link e.value)) (under order_path k) (λ e. record { key = e.key; value = a }) (λ _. m) xs u in
    let p = every_placed (λ e. not (is_link e.value)) (λ e. not (before order_path k e)) (record { key = k; value = a }) xs m u in
    let b = cases_Bool (any (under order_path k) xs) in
    let f = cases_Bool (nat_lt (length xs) n) in
    grind arith

pub kept_unlinked : (t : Entry Names Classified → Bool) (xs : List (Entry Names Classified)) → unlinked xs ≡ true → unlinked (filter t xs) ≡ true
kept_unlinked = every_kept (λ e. not (is_link e.value))

-- rows are the same where each list is
pub same_rows : {f f' u u' : List (Entry Names Classified)} {l l' : List (Entry Names Heading)} {i i' : List (Entry Names ListingItem)} → f ≡ f' → u ≡ u' → l ≡ l' → i ≡ i'
    → ◌≡◌ {A = Rows} (record { followed = f; unfollowed = u; listings = l; items = i }) (record { followed = f'; unfollowed = u'; listings = l'; items = i' })
same_rows ef eu el ei = cc
