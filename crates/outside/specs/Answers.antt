-- What a scanner and a filterer answer.
use Rattle.std.specs.Prelude.{ℕ, Bool, List, Ok, Err, Option, Result}
use Rattle.std.specs.List.{slice_get}
use Rattle.paths.specs.Names.{Name, Names}
use Rattle.outside.specs.declared.cause.ScanCause.{ScanCause}

-- A directory with its canonical path, a link that is not followed, anything else.
pub data Entry : Type 0 where
  directory : Names → Entry
  symlink : Entry
  other : Entry

-- The classification of a path.
abbrev pub Classified : Type 0
Classified = Result Entry ScanCause

-- One item of a listing: a child's name or a cause.
abbrev pub ListingItem : Type 0
ListingItem = Result Name ScanCause

-- The listing of a path.
abbrev pub Listed : Type 0
Listed = Result (List ListingItem) ScanCause

-- Yes or no, or a fault number.
abbrev pub Verdict : Type 0
Verdict = Result Bool ℕ

-- The item of that number; none behind the last.
abbrev pub item_at : ℕ → Listed → Result (Option ListingItem) ScanCause
item_at k (Ok items) = Ok (slice_get items k)
item_at k (Err c) = Err c
