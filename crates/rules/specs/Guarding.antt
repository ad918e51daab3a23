-- Guards: the nearest safe directory above a root that is not safely there.
use Rattle.std.specs.Prelude.{Bool, true, false, cond, not, ◌&&◌, ◌||◌, [], ◌∷◌, Some, None, Option}
use Rattle.paths.specs.Names.{Names, same_path}
use Rattle.outside.specs.declared.cause.BackendCause.{BackendCause}
use Rattle.outside.specs.declared.cause.ScanCause.{ScanCause}
use Rattle.outside.specs.Answers.{Entry, directory, symlink, other, Classified}
use Rattle.outside.specs.Requests.{Answer, done, failed, watch}
use Rattle.rules.specs.declared.progress.AddResult.{AddResult}
use Rattle.rules.specs.declared.progress.AddResult.TheVariants.{Added, Skipped, Invalidated, Rebuild}
use Rattle.rules.specs.declared.watcher_kind.WatcherKind.{WatcherKind}
use Rattle.rules.specs.declared.watcher_kind.WatcherKind.TheVariants.{Inotify, ReadDirectoryChangesWatcher, PollWatcher}
use Rattle.rules.specs.Faults.{scan_fault}
use Rattle.rules.specs.Roots.{Root, Identity, canonical, same_identity}
use Rattle.rules.specs.State.{State, Guard, guard_work, root_work, follows, has_tombstone, is_held_back, is_recorded, is_watched, guard_at, guarded_by, guards_identity}
use Rattle.rules.specs.Edits.{push_front, put_record, put_guard, put_guarded, put_tombstone, put_retry_root, drop_failure, drop_skipped, drop_retry_root, lift_tombstones, drop_tombstone, room_for_guard, room_to_guard}
use Rattle.rules.specs.Acts.{Act, ◌>>=◌, ◌>>◌, pass, looking, asked, edit, change, request, report, ask_rebuild, wants}
use Rattle.rules.specs.Looking.{RootState, entry, missing, unsafe, failing, Place, nowhere, found, blocked, classify_explicit_root, guard_place}
use Rattle.rules.specs.Removing.{detach_guard_registration, remove_root_guard}
use Rattle.rules.specs.Adding.{verify_poll_registration, not_watched}

-- Kinds that keep the guard above a root that is a directory.
abbrev pub retains_directory_root_guard : WatcherKind → Bool
retains_directory_root_guard Inotify = false
retains_directory_root_guard ReadDirectoryChangesWatcher = true
retains_directory_root_guard PollWatcher = false

-- Kinds that keep the guard above a root that is no directory.
abbrev pub retains_nondirectory_root_guard : WatcherKind → Bool
retains_nondirectory_root_guard Inotify = true
retains_nondirectory_root_guard ReadDirectoryChangesWatcher = false
retains_nondirectory_root_guard PollWatcher = false

-- Whether the guard is kept above such an entry.
abbrev pub retains_guard : WatcherKind → Entry → Bool
retains_guard k (directory c) = retains_directory_root_guard k
retains_guard k symlink = false
retains_guard k other = retains_nondirectory_root_guard k

-- The root's guard stands at this path.
abbrev pub is_guarded_at : Names → Option Names → Bool
is_guarded_at p None = false
is_guarded_at p (Some q) = same_path q p

-- The root is guarded at this path.
unfoldable pub guards_root : State → Root → Names → Bool
guards_root s r p = is_guarded_at p (guarded_by s r)

-- The root's guard stands as it should: at this path, attached with this identity, and not replaced since.
unfoldable pub stands : State → Root → Names → Identity → Bool → Bool
stands s r p i replaced = guards_root s r p && guards_identity s i p && not replaced

-- A guard that was replaced, or is of another identity.
unfoldable pub is_outdated : Guard → Identity → Bool → Bool
is_outdated g i replaced = replaced || not (same_identity g.identity i)

-- The root is there after all: what was held against it goes, and its work comes first.
unfoldable pub root_appeared : Root → Act (Unit {0})
root_appeared r = do
  change (lift_tombstones r.path)
  change (drop_skipped r.path)
  change (drop_failure r.path)
  edit (push_front (root_work r))

-- A cause at a path: the root is to be tried again.
unfoldable pub retry_root_at : Root → Names → ScanCause → Act (Unit {0})
retry_root_at r p c = do
  report (scan_fault p c)
  edit (put_retry_root r)

-- Goes by how the root stands.
abbrev pub recheck : Root → RootState → Act (Unit {0})
recheck r (entry e) = root_appeared r
recheck r (missing p) = pass
recheck r unsafe = pass
recheck r (failing p c) = retry_root_at r p c

-- A guard path that is not there becomes a tombstone, and the guard is looked for once more.
abbrev pub guard_failed : Root → Names → AddResult → Act (Unit {0})
guard_failed r p Added = pass
guard_failed r p Skipped = pass
guard_failed r p Invalidated = do
  edit (put_tombstone p)
  edit (push_front (guard_work r))
guard_failed r p Rebuild = pass

-- A guard's watch that was not done: the root is to be tried again.
unfoldable pub guard_not_watched : Root → Names → BackendCause → Option Names → Act (Unit {0})
guard_not_watched r p c at = do
  edit (put_retry_root r)
  how ← not_watched p c at
  guard_failed r p how

-- The tombstones on the way to the place go: with following only that of the place itself.
unfoldable pub clear_way : Bool → Names → State → State
clear_way true p = drop_tombstone p
clear_way false p = lift_tombstones p

-- A cause ends the search: without following, the tombstones above it are gone by then.
unfoldable pub clear_above : Bool → Names → State → State
clear_above follow [] s = s
clear_above true (n ∷ p) s = s
clear_above false (n ∷ p) s = lift_tombstones p s

-- The root is to be tried again, and a rebuild is asked.
unfoldable pub guard_must_rebuild : Root → Act (Unit {0})
guard_must_rebuild r = edit (put_retry_root r) >> ask_rebuild

module _ (look : Names → Bool → Classified) where
  -- Whether the root appeared meanwhile.
  unfoldable pub recheck_guarded_root : Root → Act (Unit {0})
  recheck_guarded_root r = looking (λ s. recheck r (classify_explicit_root look (follows s) r.path))

  -- The guard is in place.
  unfoldable pub install_guard : Root → Names → Identity → Act (Unit {0})
  install_guard r p i = do
    edit (put_guard p i)
    edit (put_guarded r p)
    change (drop_retry_root r)
    recheck_guarded_root r

  -- A watch that is in order: the record is entered and the guard installed.
  abbrev pub guard_verified : Root → Names → Identity → Bool → Act (Unit {0})
  guard_verified r p i true = do
    change (drop_failure p)
    edit (put_record i p)
    install_guard r p i
  guard_verified r p i false = edit (push_front (guard_work r))

  -- The watch's answer.
  abbrev pub guard_watched : Root → Names → Identity → Answer → Act (Unit {0})
  guard_watched r p i done = do
    ok ← verify_poll_registration look p i
    guard_verified r p i ok
  guard_watched r p i (failed c at) = guard_not_watched r p c at

  -- The watch itself: the places for what it brings are asked first.
  unfoldable pub watch_guard : Root → Names → Identity → Act (Unit {0})
  watch_guard r p i = do
    looking (λ s. wants (room_to_guard s p r))
    a ← request (watch p)
    guard_watched r p i a

  -- The guard joins the record of its identity.
  unfoldable pub join_guard : Root → Names → Identity → Act (Unit {0})
  join_guard r p i = do
    looking (λ s. wants (room_for_guard s p r))
    install_guard r p i

  -- A watch is due, unless the latch or a skip forbids it or the path is another record's watch path.
  unfoldable pub new_guard : Root → Names → Identity → Act (Unit {0})
  new_guard r p i =
      looking (λ s. cond (is_held_back s p) (edit (put_retry_root r)) (cond (is_watched s p) (guard_must_rebuild r) (watch_guard r p i)))

  -- The guard joins the record of its identity, or a watch is due.
  unfoldable pub attach_guard : Root → Names → Identity → Act (Unit {0})
  attach_guard r p i = looking (λ s. cond (is_recorded s i) (join_guard r p i) (new_guard r p i))

  -- After the root's other guard was given up: a rebuild that this asked ends it.
  abbrev pub guard_moved : Root → Names → Identity → Bool → Act (Unit {0})
  guard_moved r p i true = edit (put_retry_root r)
  guard_moved r p i false = attach_guard r p i

  -- The root's guard elsewhere is given up first.
  unfoldable pub move_guard : Root → Names → Identity → Act (Unit {0})
  move_guard r p i =
      looking (λ s. cond (guards_root s r p) (attach_guard r p i)
      (do
        remove_root_guard r
        b ← asked
        guard_moved r p i b))

  -- Goes on if the old guard left its record in order.
  abbrev pub guard_detached : Root → Names → Identity → Bool → Act (Unit {0})
  guard_detached r p i true = move_guard r p i
  guard_detached r p i false = edit (put_retry_root r)

  -- An old guard at the path that was replaced, or is of another identity, is detached first.
  abbrev pub replace_guard : Root → Names → Identity → Bool → Option Guard → Act (Unit {0})
  replace_guard r p i replaced None = move_guard r p i
  replace_guard r p i replaced (Some g) =
      cond (is_outdated g i replaced)
      (do
        ok ← detach_guard_registration p g.identity
        guard_detached r p i ok)
      (move_guard r p i)

  -- A guard that stands as it should only has its root rechecked.
  unfoldable pub guard_found : Root → Names → Identity → Bool → Act (Unit {0})
  guard_found r p i replaced =
      looking (λ s. cond (stands s r p i replaced)
      (do
        change (drop_retry_root r)
        recheck_guarded_root r)
      (replace_guard r p i replaced (guard_at s p)))

  -- What the search for a safe directory came to.
  abbrev pub guard_placed : Root → State → Place → Act (Unit {0})
  guard_placed r s nowhere = remove_root_guard r
  guard_placed r s (found p c) = do
    change (clear_way (follows s) p)
    guard_found r p (canonical c) (has_tombstone s p)
  guard_placed r s (blocked p c) = do
    change (clear_above (follows s) p)
    retry_root_at r p c

  -- The root gets its guard at the nearest safe directory above.
  unfoldable pub ensure_guard : Root → Act (Unit {0})
  ensure_guard r = looking (λ s. guard_placed r s (guard_place look (follows s) r.path))
