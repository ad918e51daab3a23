-- Giving up owners, logical paths, guards, and with their last alias the records.
use Rattle.std.specs.Prelude.{ℕ, Bool, true, false, cond, not, ◌&&◌, Some, None, Option}
use Rattle.paths.specs.Names.{Names, same_path}
use Rattle.outside.specs.declared.cause.BackendCause.{BackendCause}
use Rattle.outside.specs.Requests.{Answer, done, failed, unwatch}
use Rattle.rules.specs.Faults.{remove_fault, is_watch_not_found}
use Rattle.rules.specs.Roots.{Root, Identity}
use Rattle.rules.specs.State.{State, Guard, is_current, identity_at, watch_path_of, guard_at, guarded_by, guards_roots, is_abandoned, is_marked, has_aliases, guards_identity, names_identity}
use Rattle.rules.specs.Edits.{drop_logical, drop_owner, drop_record, drop_guard, drop_guarded, loosen}
use Rattle.rules.specs.Acts.{Act, ◌>>=◌, ◌>>◌, give, pass, looking, edit, change, request, report, ask_rebuild}
use Rattle.rules.specs.Queueing.{schedule_retries}

-- A failed unwatch is a fault and asks a rebuild.
abbrev pub not_unwatched : Names → BackendCause → Option Names → Act Bool
not_unwatched p c at = do
  report (remove_fault p c at)
  ask_rebuild
  give false

-- Whether the unwatch succeeded: a watch that is not found is gone as well.
abbrev pub unwatched : Names → Answer → Act Bool
unwatched p done = give true
unwatched p (failed c at) = cond (is_watch_not_found c) (give true) (not_unwatched p c at)

-- One unwatch request.
unfoldable pub try_unwatch : Names → Act Bool
try_unwatch p = do
  a ← request (unwatch p)
  unwatched p a

-- What waited for a place is queued once more if one became free.
abbrev pub freed : Bool → Act Bool
freed true = do
  edit schedule_retries
  give true
freed false = give false

-- The record without aliases ends.
unfoldable pub end_record : Identity → Names → Act Bool
end_record i at = do
  change (drop_record i)
  ok ← try_unwatch at
  freed ok

-- The identity's record lost the alias p, which still names it or not: with other aliases its watch path must go on naming one of them.
abbrev pub with_watch_path : Names → Identity → Bool → State → Option Names → Act Bool
with_watch_path p i still s None = give true
with_watch_path p i still s (Some at) =
    cond (has_aliases s i)
    (cond (same_path at p && not still) (ask_rebuild >> give false) (give true))
    (end_record i at)

-- Whether the record is in order after it lost an alias.
unfoldable pub alias_lost : Names → Identity → Bool → Act Bool
alias_lost p i still = looking (λ s. with_watch_path p i still s (watch_path_of s i))

-- Its record loses an alias.
abbrev pub logical_removed : Names → Option Identity → Act (Unit {0})
logical_removed p None = pass
logical_removed p (Some i) = do
  change (drop_logical p)
  ok ← looking (λ s. alias_lost p i (guards_identity s i p))
  pass

-- The logical path and its owners go, and the record with its last alias.
unfoldable pub remove_logical : Names → Act (Unit {0})
remove_logical p = looking (λ s. logical_removed p (identity_at s p))

-- The logical path goes with its last owner.
unfoldable pub unless_owned : Names → Act (Unit {0})
unless_owned p = looking (λ s. cond (is_abandoned s p) (remove_logical p) pass)

-- A waiting owner removal: the owner goes, whatever its mark.
unfoldable pub remove_owner_force : Root → Names → Act (Unit {0})
remove_owner_force r p = do
  change (drop_owner p r)
  unless_owned p

-- The owner goes unless it was marked in this epoch.
unfoldable pub drop_unmarked : Names → Root → ℕ → State → State
drop_unmarked p r n s = cond (is_marked s p r n) s (drop_owner p r s)

-- A sweep entry of this epoch: the owner goes unless it was marked since. One of another epoch counts no more.
unfoldable pub remove_owner : Names → Root → ℕ → Act (Unit {0})
remove_owner p r n =
    looking (λ s. cond (is_current s n) (change (drop_unmarked p r n) >> unless_owned p) pass)

-- The guard's alias leaves its record; whether the record is in order after it.
unfoldable pub detach_guard_registration : Names → Identity → Act Bool
detach_guard_registration p i = do
  change (loosen p)
  looking (λ s. alias_lost p i (names_identity s i p))

-- Its record loses an alias.
abbrev pub guard_removed : Names → Option Guard → Act (Unit {0})
guard_removed p None = pass
guard_removed p (Some g) = do
  change (drop_guard p)
  ok ← detach_guard_registration p g.identity
  pass

-- The guard goes with the last root that it stands for.
abbrev pub root_unguarded : Root → Option Names → Act (Unit {0})
root_unguarded r None = pass
root_unguarded r (Some p) = do
  change (drop_guarded r)
  looking (λ s. cond (guards_roots s p) pass (guard_removed p (guard_at s p)))

-- The root gives up its guard, if it has one.
unfoldable pub remove_root_guard : Root → Act (Unit {0})
remove_root_guard r = looking (λ s. root_unguarded r (guarded_by s r))
