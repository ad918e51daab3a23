-- Faults: what a step reports, and where.
use Rattle.std.specs.Prelude.{ℕ, Bool, true, false, cond, ◌||◌, Some, None, Option, ◌==◌}
use Rattle.paths.specs.Names.{Names}
use Rattle.outside.specs.declared.cause.BackendCause.{BackendCause}
use Rattle.outside.specs.declared.cause.BackendCause.TheVariants.{PathNotFound, WatchNotFound, MaxFilesWatch, Io, Other}
use Rattle.outside.specs.declared.cause.ScanCause.{ScanCause}
use Rattle.outside.specs.declared.cause.FilterFault.{FilterFault}
use Rattle.outside.specs.declared.cause.Cause.{Cause}
use Rattle.outside.specs.declared.cause.Cause.TheVariants.{Backend, Scan, Changed, Filter}
-- A fault is the layer that it comes from, its kind, its path or none, and the cause from below, whole.
pub use Rattle.rules.specs.declared.fault.Fault.{Fault}
use Rattle.rules.specs.declared.fault_kind.Layer.TheVariants.{Watcher, Filter as FilterLayer}
use Rattle.rules.specs.declared.fault_kind.FaultKind.{FaultKind}
use Rattle.rules.specs.declared.fault_kind.FaultKind.TheVariants.{PathAdd, PathScan, PathRemove, TooManyWatches, TooManyHandles, Filter as FilterKind}

-- A fault at a path, by the watcher.
abbrev pub path_fault : FaultKind → Names → Cause → Fault
path_fault k p c = record { layer = Watcher; kind = k; path = Some p; cause = c }

-- The path that an answer carries, or else the path requested.
abbrev pub fault_path : Option Names → Names → Names
fault_path None p = p
fault_path (Some q) p = q

-- A watch that was not done.
abbrev pub add_fault : Names → BackendCause → Option Names → Fault
add_fault p c at = path_fault PathAdd (fault_path at p) (Backend c)

-- An unwatch that was not done.
abbrev pub remove_fault : Names → BackendCause → Option Names → Fault
remove_fault p c at = path_fault PathRemove (fault_path at p) (Backend c)

-- A scarce resource is no path's: only the path that the answer carries is named.
abbrev pub resource_fault : FaultKind → BackendCause → Option Names → Fault
resource_fault k c at = record { layer = Watcher; kind = k; path = at; cause = Backend c }

-- A scanner's cause at a path.
abbrev pub scan_fault : Names → ScanCause → Fault
scan_fault p c = path_fault PathScan p (Scan c)

-- The path changed while it was being watched.
abbrev pub changed_fault : Names → Fault
changed_fault p = path_fault PathScan p Changed

-- A filterer's fault by its number.
abbrev pub filter_fault : ℕ → FilterFault
filter_fault n = record { 0 = n }

-- A filterer's fault at a path.
abbrev pub verdict_fault : Names → FilterFault → Fault
verdict_fault p f = record { layer = FilterLayer; kind = FilterKind; path = Some p; cause = Filter f }

-- The scarce resource that a backend's cause speaks of, if it does: the numbers are Linux's.
abbrev pub resource : BackendCause → Option FaultKind
resource PathNotFound = None
resource WatchNotFound = None
resource MaxFilesWatch = Some TooManyWatches
resource (Io n) = cond (n == 28) (Some TooManyWatches) (cond (n == 23 || n == 24) (Some TooManyHandles) None)
resource Other = None

-- The path is not there.
abbrev pub is_path_not_found : BackendCause → Bool
is_path_not_found PathNotFound = true
is_path_not_found WatchNotFound = false
is_path_not_found MaxFilesWatch = false
is_path_not_found (Io n) = false
is_path_not_found Other = false

-- The path was not watched.
abbrev pub is_watch_not_found : BackendCause → Bool
is_watch_not_found PathNotFound = false
is_watch_not_found WatchNotFound = true
is_watch_not_found MaxFilesWatch = false
is_watch_not_found (Io n) = false
is_watch_not_found Other = false
