-- The rows of a sheet, and what they answer.
use Rattle.std.specs.Prelude.{Bool, true, false, List, map, unwrap_or, Ok, Err, filter, Option, Result}
use Rattle.paths.specs.Names.{Names, same_path}
use Rattle.paths.specs.Order.{order_path}
use Rattle.tables.specs.declared.entry.Entry.{Entry}
use Rattle.tables.specs.Entries.{held}
use Rattle.outside.specs.declared.cause.ScanCause.{ScanCause}
use Rattle.outside.specs.declared.cause.ScanCause.TheVariants.{NotFound}
use Rattle.outside.specs.Answers.{Classified, ListingItem, Listed}

-- That a path has a listing, or the cause that stands in place of one.
abbrev pub Heading : Type 0
Heading = Result (Unit {0}) ScanCause

-- Each row stands under the path that it is for.
pub record Rows : Type 0 where
  pub followed : List (Entry Names Classified)
  pub unfollowed : List (Entry Names Classified)
  pub listings : List (Entry Names Heading)
  pub items : List (Entry Names ListingItem)

-- The classifications for a follow mark.
abbrev pub classes : Bool → Rows → List (Entry Names Classified)
classes true s = s.followed
classes false s = s.unfollowed

-- What the row for a question says; where there is none, nothing was found.
abbrev pub said : {X : Type 0} → Option (Result X ScanCause) → Result X ScanCause
said o = unwrap_or o (Err NotFound)

-- The classification of a path.
abbrev pub classified : Rows → Names → Bool → Classified
classified s p follow = said (held order_path p (classes follow s))

-- The items for a path, in the order given.
abbrev pub items_for : Names → List (Entry Names ListingItem) → List ListingItem
items_for p xs = map (λ e. e.value) (filter (λ e. same_path e.key p) xs)

-- Those items under a heading.
abbrev pub headed : Heading → List ListingItem → Listed
headed (Ok x) is = Ok is
headed (Err c) is = Err c

-- The listing of a path.
abbrev pub listed : Rows → Names → Listed
listed s p = headed (said (held order_path p s.listings)) (items_for p s.items)
