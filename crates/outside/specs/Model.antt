-- What the values of the code stand for.
use Rattle.std.specs.Prelude.{Bool, Ok, Err, Option, Result}
use Rattle.paths.specs.Names.{Names}
use Rattle.outside.specs.declared.cause.BackendCause.{BackendCause}
use Rattle.outside.specs.declared.cause.ScanCause.{ScanCause}
use Rattle.outside.specs.declared.cause.FilterFault.{FilterFault}
use Rattle.outside.specs.declared.entry.EntryKind.{EntryKind}
use Rattle.outside.specs.declared.entry.EntryKind.TheVariants.{Directory, NonFollowedSymlink, Other}
use Rattle.outside.specs.Requests.{Answer, done, failed}
use Rattle.outside.specs.Answers.{Entry, directory, symlink, other, Classified, Verdict}

-- A reply and the path beside it are one answer.
abbrev pub answered : Result (Unit {0}) BackendCause → Option Names → Answer
answered (Ok x) at = done
answered (Err c) at = failed c at

-- The kind of an entry; the canonical path of a directory stands beside.
abbrev pub kind_of : Entry → EntryKind
kind_of (directory p) = Directory
kind_of symlink = NonFollowedSymlink
kind_of other = Other

abbrev pub kind : Classified → Result EntryKind ScanCause
kind (Ok e) = Ok (kind_of e)
kind (Err c) = Err c

-- The place for the canonical path: that of a directory, or what it held.
abbrev pub canonical_of : Entry → Names → Names
canonical_of (directory p) old = p
canonical_of symlink old = old
canonical_of other old = old

abbrev pub canonical : Classified → Names → Names
canonical (Ok e) old = canonical_of e old
canonical (Err c) old = old

-- A filterer's reply with the number in place of the fault.
abbrev pub verdict_of : Result Bool FilterFault → Verdict
verdict_of (Ok b) = Ok b
verdict_of (Err f) = Err f.0
