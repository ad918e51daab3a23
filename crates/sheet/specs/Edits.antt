-- What the edits of a sheet answer, and what they make of its rows.
use Rattle.std.specs.Prelude.{ℕ, Bool, true, false, cond, not, ◌&&◌, List, [], ◌∷◌, ◌++◌, Ok, Err, filter, Result}
use Rattle.paths.specs.Names.{Names, same_path, starts_with}
use Rattle.paths.specs.Order.{order_path}
use Rattle.tables.specs.declared.entry.Entry.{Entry}
use Rattle.tables.specs.declared.full.NoPlace.{NoPlace}
use Rattle.tables.specs.Entries.{entered}
use Rattle.tables.specs.Room.{fitted}
use Rattle.outside.specs.Answers.{Classified, ListingItem}
use Rattle.sheet.specs.declared.refusal.ClassRefusal.{ClassRefusal}
use Rattle.sheet.specs.declared.refusal.ClassRefusal.TheVariants.{Full, FollowedLink}
use Rattle.sheet.specs.Classes.{is_link}
use Rattle.sheet.specs.Rows.{Heading, Rows, classes}

-- No row.
abbrev pub blank : Rows
blank = record { followed = []; unfollowed = []; listings = []; items = [] }

-- A row under a path, in place of the one there; of n rows there is no place for one more.
abbrev pub put : {X : Type 0} → ℕ → Names → X → List (Entry Names X) → Result (Unit {0}) NoPlace × List (Entry Names X)
put n p x xs = entered order_path n p x xs

-- Rows with other classifications for a follow mark.
abbrev pub with_classes : Bool → List (Entry Names Classified) → Rows → Rows
with_classes true xs s = record { followed = xs; unfollowed = s.unfollowed; listings = s.listings; items = s.items }
with_classes false xs s = record { followed = s.followed; unfollowed = xs; listings = s.listings; items = s.items }

-- Rows with other listings.
abbrev pub with_listings : List (Entry Names Heading) → Rows → Rows
with_listings xs s = record { followed = s.followed; unfollowed = s.unfollowed; listings = xs; items = s.items }

-- Rows with other items.
abbrev pub with_items : List (Entry Names ListingItem) → Rows → Rows
with_items xs s = record { followed = s.followed; unfollowed = s.unfollowed; listings = s.listings; items = xs }

-- The same reply as one of a classification.
abbrev pub full : Result (Unit {0}) NoPlace → Result (Unit {0}) ClassRefusal
full (Ok x) = Ok x
full (Err e) = Err Full

-- The classification of a path is set for a follow mark. A link with following on is refused.
abbrev pub classified_as : Names → Bool → Classified → Rows → Result (Unit {0}) ClassRefusal × Rows
classified_as p follow a s =
    cond (follow && is_link a) (Err FollowedLink, s)
    (full (put 512 p a (classes follow s)).0, with_classes follow (put 512 p a (classes follow s)).1 s)

-- The rows that are not for a path.
abbrev pub others : {X : Type 0} → Names → List (Entry Names X) → List (Entry Names X)
others p xs = filter (λ e. not (same_path e.key p)) xs

-- A list after an edit, or as it was where that is refused.
abbrev pub unless_refused : {X : Type 0} → Result (Unit {0}) NoPlace → List X → List X → List X
unless_refused (Ok x) after before = after
unless_refused (Err e) after before = before

-- A path has a listing, with no items yet, or a cause in place of one. Earlier items for it are gone.
abbrev pub headed_as : Names → Heading → Rows → Result (Unit {0}) NoPlace × Rows
headed_as p h s = (
  (put 256 p h s.listings).0,
  with_listings (put 256 p h s.listings).1 (with_items (unless_refused (put 256 p h s.listings).0 (others p s.items) s.items) s),
)

-- One item more, for a path, behind all others; of 2048 items there is no place for one more.
abbrev pub one_more : Names → ListingItem → List (Entry Names ListingItem) → Result (Unit {0}) NoPlace × List (Entry Names ListingItem)
one_more p i xs = fitted 2048 xs (xs ++ record { key = p; value = i } ∷ [])

-- The rows with that item.
abbrev pub added : Names → ListingItem → Rows → Result (Unit {0}) NoPlace × Rows
added p i s = ((one_more p i s.items).0, with_items (one_more p i s.items).1 s)

-- The rows that neither stand under a path nor under one below it.
abbrev pub apart : {X : Type 0} → Names → List (Entry Names X) → List (Entry Names X)
apart p xs = filter (λ e. not (starts_with e.key p)) xs

-- All rows at and below a path are gone.
abbrev pub struck : Names → Rows → Rows
struck p s = record { followed = apart p s.followed; unfollowed = apart p s.unfollowed; listings = apart p s.listings; items = apart p s.items }
