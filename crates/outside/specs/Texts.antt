-- How a cause is written where people read it.
use Rattle.std.specs.Prelude.{ℕ, List, ◌++◌, codes}
use Rattle.std.specs.Fmt.{decimal}
use Rattle.outside.specs.declared.cause.BackendCause.{BackendCause}
use Rattle.outside.specs.declared.cause.BackendCause.TheVariants.{PathNotFound, WatchNotFound, MaxFilesWatch, Io, Other}
use Rattle.outside.specs.declared.cause.ScanCause.{ScanCause}
use Rattle.outside.specs.declared.cause.ScanCause.TheVariants.{NotFound, Number}
use Rattle.outside.specs.declared.cause.FilterFault.{FilterFault}

-- The path that a backend's cause carries is written apart.
abbrev pub backend_text : BackendCause → List ℕ
backend_text PathNotFound = codes "path-not-found"
backend_text WatchNotFound = codes "watch-not-found"
backend_text MaxFilesWatch = codes "max-files"
backend_text (Io n) = codes "io:" ++ decimal n
backend_text Other = codes "other"

abbrev pub scan_text : ScanCause → List ℕ
scan_text NotFound = codes "not-found"
scan_text (Number n) = codes "number:" ++ decimal n

abbrev pub fault_text : FilterFault → List ℕ
fault_text f = codes "fault:" ++ decimal f.0
