-- What a row says of a path.
use Rattle.std.specs.Prelude.{◌≡◌, Bool, true, false, [], Ok, Err, Result, refl}
use Rattle.paths.specs.Names.{Names}
use Rattle.outside.specs.declared.cause.ScanCause.{ScanCause}
use Rattle.outside.specs.declared.entry.EntryKind.{EntryKind}
use Rattle.outside.specs.declared.entry.EntryKind.TheVariants.{Directory, NonFollowedSymlink, Other}
use Rattle.outside.specs.Answers.{Entry, directory, symlink, other, Classified}
use Rattle.outside.specs.Model.{kind, canonical}

-- A kind with the path that stands beside it.
abbrev pub entry_by : EntryKind → Names → Entry
entry_by Directory p = directory p
entry_by NonFollowedSymlink p = symlink
entry_by Other p = other

-- A kind or a cause with that path.
abbrev pub class_by : Result EntryKind ScanCause → Names → Classified
class_by (Ok k) p = Ok (entry_by k p)
class_by (Err c) p = Err c

-- Beside what is no directory stands "/".
abbrev pub Tidy : Result EntryKind ScanCause → Names → Type 0
Tidy k p = canonical (class_by k p) [] ≡ p

pub kind_seen : (k : Result EntryKind ScanCause) (p : Names) → kind (class_by k p) ≡ k
kind_seen (Ok Directory) p = refl
kind_seen (Ok NonFollowedSymlink) p = refl
kind_seen (Ok Other) p = refl
kind_seen (Err c) p = refl

-- An entry that is a link.
abbrev pub entry_is_link : Entry → Bool
entry_is_link (directory p) = false
entry_is_link symlink = true
entry_is_link other = false

-- A classification that is a link.
abbrev pub is_link : Classified → Bool
is_link (Ok e) = entry_is_link e
is_link (Err c) = false
