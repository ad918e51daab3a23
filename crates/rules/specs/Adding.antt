-- Adding a logical path, and what a watch's answer means.
use Rattle.std.specs.Prelude.{Bool, true, false, cond, Some, None, Ok, Err, Option, nat_le}
use Rattle.paths.specs.Names.{Names}
use Rattle.outside.specs.declared.cause.BackendCause.{BackendCause}
use Rattle.outside.specs.Answers.{Entry, directory, symlink, other, Classified}
use Rattle.outside.specs.Requests.{Answer, done, failed, watch}
use Rattle.rules.specs.declared.fault_kind.FaultKind.{FaultKind}
use Rattle.rules.specs.declared.progress.AddResult.{AddResult}
use Rattle.rules.specs.declared.progress.AddResult.TheVariants.{Added, Skipped, Invalidated, Rebuild}
use Rattle.rules.specs.declared.watcher_kind.WatcherKind.{WatcherKind}
use Rattle.rules.specs.declared.watcher_kind.WatcherKind.TheVariants.{Inotify, ReadDirectoryChangesWatcher, PollWatcher}
use Rattle.rules.specs.Faults.{add_fault, resource_fault, scan_fault, changed_fault, resource, is_path_not_found}
use Rattle.rules.specs.Roots.{Root, Identity, canonical, lexical, same_identity}
use Rattle.rules.specs.State.{State, follows, kind_of, is_reported, is_held_back, identity_at, is_recorded, is_watched}
use Rattle.rules.specs.Setters.{with_latched, with_reported}
use Rattle.rules.specs.Edits.{put_logical, put_owner, put_record, put_skipped, count_failure, failures_at, drop_failure, room_for_path, room_to_watch}
use Rattle.rules.specs.Acts.{Act, ◌>>=◌, ◌>>◌, give, pass, looking, asked, edit, change, request, report, ask_rebuild, wants}
use Rattle.rules.specs.Removing.{try_unwatch}

-- The latch is set, or was.
unfoldable pub set_latch : State → State
set_latch s = with_latched true s

-- A resource fault was reported in this epoch.
unfoldable pub set_reported : State → State
set_reported s = with_reported true s

-- A scarce resource latches, and is reported once an epoch.
unfoldable pub latch : FaultKind → BackendCause → Option Names → Act (Unit {0})
latch k c at = do
  change set_latch
  looking (λ s. cond (is_reported s) pass (change set_reported >> report (resource_fault k c at)))

-- The first failure at a path asks a rebuild, the second skips the path.
unfoldable pub fail : Names → BackendCause → Option Names → Act AddResult
fail p c at = do
  edit (count_failure p)
  report (add_fault p c at)
  looking (λ s. cond (nat_le 2 (failures_at s p)) (edit (put_skipped p) >> give Skipped) (ask_rebuild >> give Rebuild))

-- A scarce resource latches, anything else is a failure.
abbrev pub refuse_watch : Names → BackendCause → Option Names → Option FaultKind → Act AddResult
refuse_watch p c at (Some k) = latch k c at >> give Skipped
refuse_watch p c at None = fail p c at

-- A watch that was not done: the path is not there, a resource is scarce, or it failed.
unfoldable pub not_watched : Names → BackendCause → Option Names → Act AddResult
not_watched p c at =
    cond (is_path_not_found c) (report (add_fault p c at) >> give Invalidated) (refuse_watch p c at (resource c))

-- The new watch is given up again.
unfoldable pub undo_invalid_poll_registration : Names → Act Bool
undo_invalid_poll_registration p = do
  ok ← try_unwatch p
  give false

-- The identity of an entry: a link that is not followed has none.
abbrev pub found_identity : Names → Entry → Option Identity
found_identity p (directory c) = Some (canonical c)
found_identity p symlink = None
found_identity p other = Some (lexical p)

-- What was found is this identity.
abbrev pub is_found : Identity → Option Identity → Bool
is_found i None = false
is_found i (Some j) = same_identity i j

-- What was found now is what was expected.
abbrev pub verified : Names → Identity → Classified → Act Bool
verified p i (Ok e) = cond (is_found i (found_identity p e)) (give true) (report (changed_fault p) >> undo_invalid_poll_registration p)
verified p i (Err c) = report (scan_fault p c) >> undo_invalid_poll_registration p

-- A watch that is in order: record, logical path and owner are entered.
unfoldable pub enter_watched : Names → Identity → Root → Act AddResult
enter_watched p i r = do
  change (drop_failure p)
  edit (put_record i p)
  edit (put_logical p i)
  edit (put_owner p r)
  give Added

-- A watch that is not in order: the check took it back.
abbrev pub not_verified : Act AddResult
not_verified = do
  b ← asked
  give (cond b Rebuild Invalidated)

-- Goes by whether the watch is in order.
abbrev pub add_verified : Names → Identity → Root → Bool → Act AddResult
add_verified p i r true = enter_watched p i r
add_verified p i r false = not_verified

-- A recorded identity: the path joins as an alias.
unfoldable pub add_alias : Names → Identity → Root → Act AddResult
add_alias p i r = do
  looking (λ s. wants (room_for_path s p r))
  change (drop_failure p)
  edit (put_logical p i)
  edit (put_owner p r)
  give Added

-- Already logical, with the same identity: the root's mark is renewed.
unfoldable pub renew_mark : Names → Root → Act AddResult
renew_mark p r = do
  edit (put_owner p r)
  change (drop_failure p)
  give Added

-- A rebuild is asked, and that is the answer.
abbrev pub must_rebuild : Act AddResult
must_rebuild = ask_rebuild >> give Rebuild

module _ (look : Names → Bool → Classified) where
  -- Only a polling backend is checked.
  abbrev pub verify_by : WatcherKind → Names → Identity → Act Bool
  verify_by Inotify p i = give true
  verify_by ReadDirectoryChangesWatcher p i = give true
  verify_by PollWatcher p i = looking (λ s. verified p i (look p (follows s)))

  -- A polling backend's new watch is checked against the scanner.
  unfoldable pub verify_poll_registration : Names → Identity → Act Bool
  verify_poll_registration p i = looking (λ s. verify_by (kind_of s) p i)

  -- The watch's answer.
  abbrev pub add_watched : Names → Identity → Root → Answer → Act AddResult
  add_watched p i r done = do
    ok ← verify_poll_registration p i
    add_verified p i r ok
  add_watched p i r (failed c at) = not_watched p c at

  -- The watch itself: the places for what it brings are asked first.
  unfoldable pub watch_new : Names → Identity → Root → Act AddResult
  watch_new p i r = do
    looking (λ s. wants (room_to_watch s p r))
    a ← request (watch p)
    add_watched p i r a

  -- A watch is due, unless the latch or a skip forbids it or the path is another record's watch path.
  unfoldable pub add_new : Names → Identity → Root → Act AddResult
  add_new p i r =
      looking (λ s. cond (is_held_back s p) (give Skipped) (cond (is_watched s p) must_rebuild (watch_new p i r)))

  -- Already logical: with the same identity the root's mark is renewed, with another a rebuild is asked.
  abbrev pub add_known : Names → Identity → Root → State → Option Identity → Act AddResult
  add_known p i r s (Some j) = cond (same_identity j i) (renew_mark p r) must_rebuild
  add_known p i r s None = cond (is_recorded s i) (add_alias p i r) (add_new p i r)

  -- Adds the path, of this identity, as owned by the root.
  unfoldable pub add_logical : Names → Identity → Root → Act AddResult
  add_logical p i r = looking (λ s. add_known p i r s (identity_at s p))
