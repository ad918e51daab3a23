-- What the values of the code stand for, with the paths that stand beside them.
use Rattle.std.specs.Prelude.{Bool, true, false, Ok, Err, Result}
use Rattle.std.specs.declared.ops.ControlFlow.{ControlFlow}
use Rattle.std.specs.declared.ops.ControlFlow.TheVariants.{Continue, Break}
use Rattle.paths.specs.Names.{Names}
use Rattle.outside.specs.declared.cause.ScanCause.{ScanCause}
use Rattle.outside.specs.declared.cause.FilterFault.{FilterFault}
use Rattle.outside.specs.declared.entry.EntryKind.{EntryKind}
use Rattle.outside.specs.declared.entry.EntryKind.TheVariants.{Directory, NonFollowedSymlink, Other}
use Rattle.outside.specs.Answers.{directory, symlink, other}
use Rattle.rules.specs.Looking.{RootState, entry, missing, unsafe, failing, Place, nowhere, found, blocked, Descent, reaches, ended, Permit, allowed, refused, balked}
use Rattle.looking.specs.declared.explicit_root.RootRefusal.{RootRefusal}
use Rattle.looking.specs.declared.explicit_root.RootRefusal.TheVariants.{NotFound, Unsafe, Failed}
use Rattle.looking.specs.declared.place.Place.{Place as PlaceValue}

-- A root's state with the canonical path of a directory, or the path that is missing or fails.
abbrev pub root_state : Result EntryKind RootRefusal → Names → RootState
root_state (Ok Directory) p = entry (directory p)
root_state (Ok NonFollowedSymlink) p = entry symlink
root_state (Ok Other) p = entry other
root_state (Err NotFound) p = missing p
root_state (Err Unsafe) p = unsafe
root_state (Err (Failed c)) p = failing p c

-- A guard with its path and canonical path, or a cause with its path.
abbrev pub place_of : Result Bool ScanCause → PlaceValue → Place
place_of (Ok true) p = found p.path p.canonical
place_of (Ok false) p = nowhere
place_of (Err e) p = blocked p.path e

-- A walk down with the canonical path of its last directory, or what it ended with.
abbrev pub descent_of : ControlFlow (Result Bool ScanCause) (Unit {0}) → PlaceValue → Descent
descent_of (Continue x) p = reaches p.canonical
descent_of (Break x) p = ended (place_of x p)

-- A permit with the path that a fault is of.
abbrev pub permit_of : Result Bool FilterFault → Names → Permit
permit_of (Ok true) p = allowed
permit_of (Ok false) p = refused
permit_of (Err f) p = balked p f.0
