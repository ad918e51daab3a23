-- Edits: changes of the state alone, which may stop for want of a place and then keep what was done.
use Rattle.std.specs.Prelude.{ℕ, ◌+◌, Bool, true, false, cond, not, ◌&&◌, List, [], ◌∷◌, ◌++◌, length, Ok, Err, filter, Result, nat_lt}
use Rattle.std.specs.Option.{unwrap_or}
use Rattle.paths.specs.Names.{Names, same_path, starts_with}
use Rattle.paths.specs.Order.{order_path}
use Rattle.tables.specs.declared.full.NoPlace.{NoPlace}
use Rattle.tables.specs.Entries.{under, held, revalued, entered}
use Rattle.tables.specs.Lists.{any}
use Rattle.tables.specs.Room.{fitted}
use Rattle.rules.specs.Lists.{has_place}
use Rattle.rules.specs.Roots.{Root, same_root, order_root, Identity, order_identity, order_owned, order_share, order_seen}
use Rattle.rules.specs.State.{State, Guard, Work}
use Rattle.rules.specs.Setters.{with_logical, with_owners, with_records, with_guards, with_guarded, with_seen, with_work, with_removals, with_owner_removals, with_skipped, with_failures, with_retry_candidates, with_retry_roots, with_tombstones}

-- All was kept, or a table is full.
pub data Edited : Type 0 where
  kept : State → Edited
  full : State → Edited

-- An edit of the state.
abbrev pub Edit : Type 0
Edit = State → Edited

-- What a reply says of the state that it came with.
abbrev pub edited : Result (Unit {0}) NoPlace → State → Edited
edited (Ok x) s = kept s
edited (Err e) s = full s

-- A list as it was entered, put into the state.
abbrev pub stored : {X : Type 0} → (X → State) → Result (Unit {0}) NoPlace × X → Edited
stored put-it q = edited q.0 (put-it q.1)

-- The second edit follows unless the first stopped.
abbrev pub onward : Edit → Edited → Edited
onward e (kept s) = e s
onward e (full s) = full s

-- One edit after another.
infixr 4 ◌⨾◌
abbrev pub ◌⨾◌ : Edit → Edit → Edit
◌⨾◌ e f s = onward f (e s)

-- A change that needs no place.
abbrev pub set_by : (State → State) → Edit
set_by f s = kept (f s)

-- No change.
abbrev pub nothing : Edit
nothing s = kept s

-- An edit that looks at the state first.
abbrev pub seeing : (State → Edit) → Edit
seeing f s = f s s

-- An edit for each entry, in order.
abbrev pub for_each : {X : Type 0} → List X → (X → Edit) → Edit
for_each [] e = nothing
for_each (x ∷ xs) e = e x ⨾ for_each xs e

-- A work at the end of the queue.
unfoldable pub push_back : Work → Edit
push_back w s = stored (λ ws. with_work ws s) (fitted 256 s.work (s.work ++ w ∷ []))

-- A work at the front of the queue.
unfoldable pub push_front : Work → Edit
push_front w s = stored (λ ws. with_work ws s) (fitted 256 s.work (w ∷ s.work))

-- A logical path of this identity.
unfoldable pub put_logical : Names → Identity → Edit
put_logical p i s = stored (λ xs. with_logical xs s) (entered order_path 64 p i s.logical)

-- The root's mark on the path, with the current epoch.
unfoldable pub put_owner : Names → Root → Edit
put_owner p r s = stored (λ xs. with_owners xs s) (entered order_owned 128 (record { path = p; root = r }) s.epoch s.owners)

-- A record with its watch path.
unfoldable pub put_record : Identity → Names → Edit
put_record i p s = stored (λ xs. with_records xs s) (entered order_identity 72 i p s.records)

-- A guard of this identity, attached.
unfoldable pub put_guard : Names → Identity → Edit
put_guard p i s = stored (λ xs. with_guards xs s) (entered order_path 8 p (record { identity = i; attached = true }) s.guards)

-- The root is guarded at this path.
unfoldable pub put_guarded : Root → Names → Edit
put_guarded r p s = stored (λ xs. with_guarded xs s) (entered order_root 16 r p s.guarded)

-- The identity is scanned for the root.
unfoldable pub put_seen : Root → Identity → Edit
put_seen r i s = stored (λ xs. with_seen xs s) (entered order_seen 128 (record { root = r; identity = i }) tt s.seen)

-- The path is skipped from now on.
unfoldable pub put_skipped : Names → Edit
put_skipped p s = stored (λ xs. with_skipped xs s) (entered order_path 128 p tt s.skipped)

-- A tombstone at the path.
unfoldable pub put_tombstone : Names → Edit
put_tombstone p s = stored (λ xs. with_tombstones xs s) (entered order_path 128 p tt s.tombstones)

-- The root is to be tried again.
unfoldable pub put_retry_root : Root → Edit
put_retry_root r s = stored (λ xs. with_retry_roots xs s) (entered order_root 128 r tt s.retry_roots)

-- The candidate is to be tried again.
unfoldable pub put_retry_candidate : Root → Names → Edit
put_retry_candidate r p s = stored (λ xs. with_retry_candidates xs s) (entered order_share 128 (record { root = r; path = p }) tt s.retry_candidates)

-- How often watching the path has failed.
unfoldable pub failures_at : State → Names → ℕ
failures_at s p = unwrap_or (held order_path p s.failures) 0

-- One failure more; two tell all, so the count stops there.
abbrev pub once_more : ℕ → ℕ
once_more n = cond (nat_lt n 2) (n + 1) 2

-- One failure more at the path.
unfoldable pub count_failure : Names → Edit
count_failure p s = stored (λ xs. with_failures xs s) (entered order_path 128 p (once_more (failures_at s p)) s.failures)

-- A logical removal waits once.
unfoldable pub queue_removal : Names → Edit
queue_removal p s = cond (any (λ q. same_path q p) s.removals) (kept s) (stored (λ ps. with_removals ps s) (fitted 128 s.removals (s.removals ++ p ∷ [])))

-- The root's share of the path waits for its removal.
unfoldable pub queue_owner_removal : Root → Names → Edit
queue_owner_removal r p s = stored (λ xs. with_owner_removals xs s) (fitted 128 s.owner_removals (s.owner_removals ++ record { root = r; path = p } ∷ []))

-- What is taken away needs no place: the path's failures are forgotten.
unfoldable pub drop_failure : Names → State → State
drop_failure p s = with_failures (filter (λ e. not (under order_path p e)) s.failures) s

-- The path is skipped no more.
unfoldable pub drop_skipped : Names → State → State
drop_skipped p s = with_skipped (filter (λ e. not (under order_path p e)) s.skipped) s

-- The root is not to be tried again.
unfoldable pub drop_retry_root : Root → State → State
drop_retry_root r s = with_retry_roots (filter (λ e. not (under order_root r e)) s.retry_roots) s

-- The candidate is not to be tried again.
unfoldable pub drop_retry_candidate : Root → Names → State → State
drop_retry_candidate r p s = with_retry_candidates (filter (λ e. not (under order_share (record { root = r; path = p }) e)) s.retry_candidates) s

-- Nothing is scanned for the root.
unfoldable pub drop_seen : Root → State → State
drop_seen r s = with_seen (filter (λ e. not (same_root e.key.root r)) s.seen) s

-- The tombstones at or above the path go.
unfoldable pub lift_tombstones : Names → State → State
lift_tombstones p s = with_tombstones (filter (λ e. not (starts_with p e.key)) s.tombstones) s

-- The tombstone at the path goes.
unfoldable pub drop_tombstone : Names → State → State
drop_tombstone p s = with_tombstones (filter (λ e. not (under order_path p e)) s.tombstones) s

-- The logical path goes, and its owners with it.
unfoldable pub drop_logical : Names → State → State
drop_logical p s = with_logical (filter (λ e. not (under order_path p e)) s.logical) (with_owners (filter (λ e. not (same_path e.key.path p)) s.owners) s)

-- The root owns the path no more.
unfoldable pub drop_owner : Names → Root → State → State
drop_owner p r s = with_owners (filter (λ e. not (under order_owned (record { path = p; root = r }) e)) s.owners) s

-- The record goes.
unfoldable pub drop_record : Identity → State → State
drop_record i s = with_records (filter (λ e. not (under order_identity i e)) s.records) s

-- The guard at the path goes.
unfoldable pub drop_guard : Names → State → State
drop_guard p s = with_guards (filter (λ e. not (under order_path p e)) s.guards) s

-- The root is guarded no more.
unfoldable pub drop_guarded : Root → State → State
drop_guarded r s = with_guarded (filter (λ e. not (under order_root r e)) s.guarded) s

-- The guard without its attachment.
abbrev pub detached : Guard → Guard
detached g = record { identity = g.identity; attached = false }

-- The guard at the path is no alias of its record any more.
unfoldable pub loosen : Names → State → State
loosen p s = with_guards (revalued order_path p detached s.guards) s

-- Places for a logical path and an owner.
unfoldable pub room_for_path : State → Names → Root → Bool
room_for_path s p r = has_place 64 order_path p s.logical && has_place 128 order_owned (record { path = p; root = r }) s.owners

-- A place for one record more.
unfoldable pub room_for_record : State → Bool
room_for_record s = nat_lt (length s.records) 72

-- Places for all that a watch brings: a record, a logical path and an owner.
unfoldable pub room_to_watch : State → Names → Root → Bool
room_to_watch s p r = room_for_record s && room_for_path s p r

-- Places for a guard and a guarded root.
unfoldable pub room_for_guard : State → Names → Root → Bool
room_for_guard s p r = has_place 8 order_path p s.guards && has_place 16 order_root r s.guarded

-- Places for all that a guard's watch brings: a record, a guard and a guarded root.
unfoldable pub room_to_guard : State → Names → Root → Bool
room_to_guard s p r = room_for_record s && room_for_guard s p r
