-- The state: each fact once, tables ascending by their keys.
use Rattle.std.specs.Prelude.{ℕ, Bool, true, false, cond, not, ◌&&◌, ◌||◌, List, [], ◌∷◌, Some, None, filter, Option, ◌==◌}
use Rattle.paths.specs.Names.{Names, same_path, starts_with}
use Rattle.paths.specs.Order.{order_path}
use Rattle.tables.specs.Entries.{held}
use Rattle.tables.specs.Lists.{any}
use Rattle.rules.specs.declared.progress.Phase.{Phase}
use Rattle.rules.specs.declared.progress.Phase.TheVariants.{Traversing, Sweeping, Settled}
use Rattle.rules.specs.declared.watcher_kind.WatcherKind.{WatcherKind}
use Rattle.rules.specs.Lists.{Table, Set, has, keys, empty}
use Rattle.rules.specs.Roots.{Root, order_root, Identity, same_identity, order_identity, Owned, order_owned, Share, Seen}
-- A guard has an identity; it is attached while the record of that identity counts it among its aliases.
pub use Rattle.rules.specs.declared.guard.Guard.{Guard}
-- An owner found stale when the sweep of that epoch was gathered.
pub use Rattle.rules.specs.declared.stale.Stale.{Stale}

-- The works that wait; candidates and scans with the retries that they have left.
pub data Work : Type 0 where
  guard_work : Root → Work
  root_work : Root → Work
  candidate_work : Root → Names → ℕ → Work
  scan_work : Root → Names → ℕ → Work
  probe_work : Names → Work

-- Logical paths have an identity, owners the epoch of their last mark, records the path by which they are watched, guarded roots the path
-- of their guard. A record's logical aliases are the logical paths of its identity, its guard aliases the attached guards of its identity,
-- a guard's roots the guarded roots that name its path. The Rust keeps these a second time, in step.
pub record State : Type 0 where
  pub roots : Set Root
  pub logical : Table Names Identity
  pub owners : Table Owned ℕ
  pub records : Table Identity Names
  pub guards : Table Names Guard
  pub guarded : Table Root Names
  pub seen : Set Seen
  pub work : List Work
  pub removals : List Names
  pub owner_removals : List Share
  pub sweep : List Stale
  pub phase : Phase
  pub skipped : Set Names
  pub failures : Table Names ℕ
  pub retry_candidates : Set Share
  pub retry_roots : Set Root
  pub tombstones : Set Names
  pub latched : Bool
  pub reported : Bool
  pub refresh : Bool
  pub stranded : Bool
  pub epoch : ℕ
  pub kind : WatcherKind
  pub follow : Bool
  pub cwd : Names

-- Links are followed.
unfoldable pub follows : State → Bool
follows s = s.follow

-- The kind of the backend.
unfoldable pub kind_of : State → WatcherKind
kind_of s = s.kind

-- A scarce resource was met.
unfoldable pub is_latched : State → Bool
is_latched s = s.latched

-- It was reported in this epoch.
unfoldable pub is_reported : State → Bool
is_reported s = s.reported

-- The epoch is the current one.
unfoldable pub is_current : State → ℕ → Bool
is_current s n = n == s.epoch

-- The root is one of the configured.
unfoldable pub is_configured : State → Root → Bool
is_configured s r = has order_root r s.roots

-- The path lies at or below a tombstone.
unfoldable pub is_tombstoned : State → Names → Bool
is_tombstoned s p = any (λ e. starts_with p e.key) s.tombstones

-- A tombstone stands at this very path.
unfoldable pub has_tombstone : State → Names → Bool
has_tombstone s p = has order_path p s.tombstones

-- The path is skipped.
unfoldable pub is_skipped : State → Names → Bool
is_skipped s p = has order_path p s.skipped

-- The latch or a skip forbids a watch of the path.
unfoldable pub is_held_back : State → Names → Bool
is_held_back s p = is_latched s || is_skipped s p

-- The identity of a logical path.
unfoldable pub identity_at : State → Names → Option Identity
identity_at s p = held order_path p s.logical

-- The path is a logical path.
unfoldable pub is_logical : State → Names → Bool
is_logical s p = has order_path p s.logical

-- The watch path of an identity's record.
unfoldable pub watch_path_of : State → Identity → Option Names
watch_path_of s i = held order_identity i s.records

-- The identity has a record.
unfoldable pub is_recorded : State → Identity → Bool
is_recorded s i = has order_identity i s.records

-- The path is the watch path of a record.
unfoldable pub is_watched : State → Names → Bool
is_watched s p = any (λ e. same_path e.value p) s.records

-- The guard at a path.
unfoldable pub guard_at : State → Names → Option Guard
guard_at s p = held order_path p s.guards

-- The path of the root's guard, if it has one.
unfoldable pub guarded_by : State → Root → Option Names
guarded_by s r = held order_root r s.guarded

-- The root has a guard.
unfoldable pub is_guarded : State → Root → Bool
is_guarded s r = has order_root r s.guarded

-- A guard at the path stands for some root.
unfoldable pub guards_roots : State → Names → Bool
guards_roots s p = any (λ e. same_path e.value p) s.guarded

-- The root owns the path, with a mark of whatever epoch.
unfoldable pub has_source_owner : State → Names → Root → Bool
has_source_owner s p r = has order_owned (record { path = p; root = r }) s.owners

-- Some root owns the path.
unfoldable pub is_owned : State → Names → Bool
is_owned s p = any (λ e. same_path e.key.path p) s.owners

-- The mark is of this epoch.
abbrev pub of_epoch : ℕ → Option ℕ → Bool
of_epoch n None = false
of_epoch n (Some m) = m == n

-- The owner has exactly this mark.
unfoldable pub is_marked : State → Names → Root → ℕ → Bool
is_marked s p r n = of_epoch n (held order_owned (record { path = p; root = r }) s.owners)

-- The path is logical, but no root owns it any more.
unfoldable pub is_abandoned : State → Names → Bool
is_abandoned s p = is_logical s p && not (is_owned s p)

-- A record's logical aliases, in their order.
unfoldable pub logical_aliases : State → Identity → List Names
logical_aliases s i = keys (filter (λ e. same_identity e.value i) s.logical)

-- A record's guard aliases: the attached guards of its identity.
unfoldable pub guard_aliases : State → Identity → List Names
guard_aliases s i = keys (filter (λ e. e.value.attached && same_identity e.value.identity i) s.guards)

-- A guard's roots.
unfoldable pub guard_roots : State → Names → List Root
guard_roots s p = keys (filter (λ e. same_path e.value p) s.guarded)

-- The record of this identity has an alias of either kind.
unfoldable pub has_aliases : State → Identity → Bool
has_aliases s i = any (λ e. same_identity e.value i) s.logical || any (λ e. e.value.attached && same_identity e.value.identity i) s.guards

-- The guard has this identity and is attached.
abbrev pub is_attached : Identity → Option Guard → Bool
is_attached i None = false
is_attached i (Some g) = g.attached && same_identity g.identity i

-- The path has this identity.
abbrev pub has_identity : Identity → Option Identity → Bool
has_identity i None = false
has_identity i (Some j) = same_identity j i

-- An attached guard of this identity stands at the path.
unfoldable pub guards_identity : State → Identity → Names → Bool
guards_identity s i p = is_attached i (guard_at s p)

-- The path is a logical path of this identity.
unfoldable pub names_identity : State → Identity → Names → Bool
names_identity s i p = has_identity i (identity_at s p)

-- The last phase.
abbrev pub is_settled : Phase → Bool
is_settled Traversing = false
is_settled Sweeping = false
is_settled Settled = true

-- No removal, no work and no sweep waits.
unfoldable pub nothing_waits : State → Bool
nothing_waits s = empty s.removals && empty s.owner_removals && empty s.work && empty s.sweep

-- Something waits, or the epoch is not settled.
unfoldable pub has_work : State → Bool
has_work s = not (nothing_waits s && is_settled s.phase)

-- Something is to be tried again, or the latch is set.
unfoldable pub needs_retry : State → Bool
needs_retry s = not (empty s.retry_roots) || not (empty s.retry_candidates) || is_latched s

-- The path is a child of the root's.
abbrev pub is_child : Names → Names → Bool
is_child [] q = false
is_child (n ∷ p) q = same_path p q

-- An event at this path concerns the root: it is the root's, or lies below a recursive one, or is a child of another.
abbrev pub concerns : Names → Root → Bool
concerns p r = same_path p r.path || cond r.recursive (starts_with p r.path) (is_child p r.path)

-- An event at this path concerns a configured root.
unfoldable pub concerns_any : State → Names → Bool
concerns_any s p = any (λ e. concerns p e.key) s.roots
