-- What the values of the code stand for.
use Rattle.sheet.specs.declared.prepared.Sheet.{Sheet}
use Rattle.sheet.specs.Rows.{Rows}

-- The rows of a sheet.
abbrev pub rows : Sheet → Rows
rows s = record { followed = s.followed; unfollowed = s.unfollowed; listings = s.listings; items = s.items }
