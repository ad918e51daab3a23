-- The five works.
use Rattle.std.specs.Prelude.{ℕ, zero, suc, Bool, true, false, cond, not, ◌&&◌, ◌||◌, List, [], ◌∷◌, Ok, Err}
use Rattle.paths.specs.Names.{Names, within}
use Rattle.outside.specs.declared.cause.ScanCause.{ScanCause}
use Rattle.outside.specs.declared.cause.ScanCause.TheVariants.{NotFound, Number}
use Rattle.outside.specs.Answers.{directory, symlink, other, Classified, ListingItem, Listed}
use Rattle.rules.specs.declared.progress.AddResult.{AddResult}
use Rattle.rules.specs.declared.progress.AddResult.TheVariants.{Added, Skipped, Invalidated, Rebuild}
use Rattle.rules.specs.Faults.{scan_fault, verdict_fault, filter_fault}
use Rattle.rules.specs.Lists.{has}
use Rattle.rules.specs.Roots.{Root, Identity, canonical, lexical, order_seen}
use Rattle.rules.specs.Runs.{World}
use Rattle.rules.specs.State.{State, Work, guard_work, root_work, candidate_work, scan_work, probe_work, follows, kind_of, is_configured, is_tombstoned, is_skipped, is_guarded, has_source_owner}
use Rattle.rules.specs.Edits.{◌⨾◌, set_by, for_each, push_back, push_front, put_seen, put_tombstone, put_retry_root, put_retry_candidate, drop_retry_root, drop_retry_candidate, drop_seen}
use Rattle.rules.specs.Acts.{Act, ◌>>=◌, ◌>>◌, give, pass, looking, edit, change, report, no_place}
use Rattle.rules.specs.Looking.{RootState, entry, missing, unsafe, failing, Permit, allowed, refused, balked, classify_explicit_root, candidate_allowed}
use Rattle.rules.specs.Queueing.{candidate_roots, queue_remove_prefix, queue_remove_owner_prefix, carry_forward, requeue_configured_roots_below, retry_transient_scan, again_candidate, queue_guards_at}
use Rattle.rules.specs.Removing.{remove_root_guard}
use Rattle.rules.specs.Adding.{add_logical}
use Rattle.rules.specs.Guarding.{retains_guard, retry_root_at, ensure_guard}

-- The identity was scanned for the root.
unfoldable pub is_seen : State → Root → Identity → Bool
is_seen s r i = has order_seen (record { root = r; identity = i }) s.seen

-- Marks the identity as scanned for the root; whether it was not before.
unfoldable pub mark_seen : Root → Identity → Act Bool
mark_seen r i = looking (λ s. cond (is_seen s r i) (give false) (edit (put_seen r i) >> give true))

-- A scan at the back of the queue, if it is wanted.
abbrev pub scan_if : Root → Names → Bool → Act (Unit {0})
scan_if r p true = edit (push_back (scan_work r p 1))
scan_if r p false = pass

-- A directory that was not seen yet for the root is to be scanned.
unfoldable pub scan_unseen : Root → Names → Identity → Act (Unit {0})
scan_unseen r p i = do
  new ← mark_seen r i
  scan_if r p new

-- A root that is not there: its paths are to be removed, and its guard comes first.
unfoldable pub fall_back : Root → Act (Unit {0})
fall_back r = do
  edit (queue_remove_prefix r.path)
  edit (push_front (guard_work r))

-- The candidate is no path of the root (any more).
unfoldable pub drop_candidate : Root → Names → Act (Unit {0})
drop_candidate r p = do
  change (drop_retry_candidate r p)
  edit (queue_remove_owner_prefix r p)

-- A failed candidate: its marks are renewed, and it is tried once more.
unfoldable pub retry_transient_candidate : Root → Names → ℕ → Act (Unit {0})
retry_transient_candidate r p k = do
  change (drop_retry_candidate r p)
  change (carry_forward r p)
  edit (again_candidate r p k)

-- What is gone: its owners' marks are to be removed, and a root that stands there needs its guard.
unfoldable pub vanished : Root → Names → Act (Unit {0})
vanished r p = do
  report (scan_fault p NotFound)
  drop_candidate r p
  edit (queue_guards_at p)

-- How adding a candidate ended.
abbrev pub candidate_added : Root → Names → Identity → AddResult → Act (Unit {0})
candidate_added r p i Added = do
  change (drop_retry_candidate r p)
  scan_unseen r p i
candidate_added r p i Skipped = edit (put_retry_candidate r p)
candidate_added r p i Rebuild = edit (put_retry_candidate r p)
candidate_added r p i Invalidated = drop_candidate r p

-- One item of a listing: a candidate or a fault. A child that breaks the path limits has no place.
abbrev pub scan_item : Root → Names → ListingItem → Act (Unit {0})
scan_item r p (Ok n) = cond (within (n ∷ p)) (edit (push_back (candidate_work r (n ∷ p) 1))) no_place
scan_item r p (Err c) = report (scan_fault p c)

-- The item is a cause.
abbrev pub is_cause : ListingItem → Bool
is_cause (Ok n) = false
is_cause (Err c) = true

-- The items in order, as many as a scan takes; whether one of them was a cause.
unfoldable pub scan_items : ℕ → Root → Names → Bool → List ListingItem → Act Bool
scan_items room r p bad [] = give bad
scan_items zero r p bad (x ∷ xs) = no_place
scan_items (suc room) r p bad (x ∷ xs) = do
  scan_item r p x
  scan_items room r p (bad || is_cause x) xs

-- A listing with a cause in it is scanned once more.
abbrev pub scan_ended : Root → Names → ℕ → Bool → Act (Unit {0})
scan_ended r p k true = edit (retry_transient_scan r p k)
scan_ended r p k false = pass

-- The listing's cause: the path is gone, or the scan is made once more.
abbrev pub scan_failed : Root → Names → ℕ → ScanCause → Act (Unit {0})
scan_failed r p k NotFound = vanished r p
scan_failed r p k (Number n) = do
  report (scan_fault p (Number n))
  change (drop_retry_candidate r p)
  edit (retry_transient_scan r p k)

-- A listing, or its cause.
abbrev pub scan_by : Root → Names → ℕ → Listed → Act (Unit {0})
scan_by r p k (Ok items) = do
  bad ← scan_items 64 r p false items
  scan_ended r p k bad
scan_by r p k (Err c) = scan_failed r p k c

-- The path is given up, and the configured roots at and below are looked at anew.
unfoldable pub give_up : Names → Act (Unit {0})
give_up p = do
  edit (queue_remove_prefix p)
  edit (requeue_configured_roots_below p)

-- The path is a candidate anew for each of these roots.
unfoldable pub probe_candidates : Names → List Root → Act (Unit {0})
probe_candidates p rs = do
  edit (queue_remove_prefix p)
  edit (for_each rs (λ r. set_by (drop_seen r) ⨾ push_back (candidate_work r p 1)))
  edit (requeue_configured_roots_below p)

-- A probe's cause: the path is gone, or the cause is reported.
abbrev pub probe_failed : Names → ScanCause → Act (Unit {0})
probe_failed p NotFound = give_up p
probe_failed p (Number n) = report (scan_fault p (Number n))

-- A probe as its path is classified.
abbrev pub probe_by : Names → List Root → Classified → Act (Unit {0})
probe_by p rs (Ok (directory c)) = probe_candidates p rs
probe_by p rs (Ok symlink) = give_up p
probe_by p rs (Ok other) = give_up p
probe_by p rs (Err c) = probe_failed p c

-- The marks of a root that owns its path are renewed.
unfoldable pub carry_source : Root → State → State
carry_source r s = cond (has_source_owner s r.path r) (carry_forward r r.path s) s

module _ (w : World) where
  -- A guard work of a root that stands: the guard goes unless it is retained, and the root's work comes first.
  abbrev pub guard_by : Root → State → RootState → Act (Unit {0})
  guard_by r s (entry e) = do
    cond (retains_guard (kind_of s) e) pass (remove_root_guard r)
    edit (push_front (root_work r))
  guard_by r s (missing p) = ensure_guard w.classified r
  guard_by r s unsafe = ensure_guard w.classified r
  guard_by r s (failing p c) = retry_root_at r p c

  -- A guard work: a dropped root gives its guard up, a missing one gets its guard.
  unfoldable pub step_guard : Root → Act (Unit {0})
  step_guard r =
      looking (λ s. cond (not (is_configured s r)) (remove_root_guard r)
      (cond (is_tombstoned s r.path) (ensure_guard w.classified r)
      (guard_by r s (classify_explicit_root w.classified (follows s) r.path))))

  -- The root's guard after it was added: ensured where it is retained, else given up.
  abbrev pub keep_guard : Root → Bool → Act (Unit {0})
  keep_guard r true = looking (λ s. cond (is_guarded s r) pass (ensure_guard w.classified r))
  keep_guard r false = remove_root_guard r

  -- How adding a root ended.
  abbrev pub root_added : Root → Identity → Bool → Bool → AddResult → Act (Unit {0})
  root_added r i scans retains Added = do
    change (drop_retry_root r)
    keep_guard r retains
    cond scans (scan_unseen r r.path i) pass
  root_added r i scans retains Skipped = edit (put_retry_root r)
  root_added r i scans retains Rebuild = edit (put_retry_root r)
  root_added r i scans retains Invalidated = do
    change (drop_retry_root r)
    edit (put_tombstone r.path)
    fall_back r

  -- A root that is there is added as its own path.
  unfoldable pub add_root : Root → Identity → Bool → Bool → Act (Unit {0})
  add_root r i scans retains = do
    how ← add_logical w.classified r.path i r
    root_added r i scans retains how

  -- A root that is not safely there.
  unfoldable pub root_unsafe : Root → Act (Unit {0})
  root_unsafe r = do
    change (drop_retry_root r)
    fall_back r

  -- A root as it stands.
  abbrev pub root_by : Root → State → RootState → Act (Unit {0})
  root_by r s (entry (directory c)) = add_root r (canonical c) r.recursive (retains_guard (kind_of s) (directory c))
  root_by r s (entry other) = add_root r (lexical r.path) false (retains_guard (kind_of s) other)
  root_by r s (entry symlink) = root_unsafe r
  root_by r s unsafe = root_unsafe r
  root_by r s (missing p) = do
    report (scan_fault p NotFound)
    change (drop_retry_root r)
    edit (put_tombstone r.path)
    fall_back r
  root_by r s (failing p c) = do
    retry_root_at r p c
    change (carry_source r)
    ensure_guard w.classified r

  -- A root work.
  unfoldable pub step_root : Root → Act (Unit {0})
  step_root r =
      looking (λ s. cond (not (is_configured s r) || is_skipped s r.path) pass
      (cond (is_tombstoned s r.path) (fall_back r)
      (root_by r s (classify_explicit_root w.classified (follows s) r.path))))

  -- A directory: added if the filterer allows it.
  abbrev pub candidate_permitted : Root → Names → ℕ → Identity → Permit → Act (Unit {0})
  candidate_permitted r p k i allowed = do
    how ← add_logical w.classified p i r
    candidate_added r p i how
  candidate_permitted r p k i refused = drop_candidate r p
  candidate_permitted r p k i (balked q n) = do
    report (verdict_fault q (filter_fault n))
    retry_transient_candidate r p k

  -- A candidate's cause: it is gone, or it is tried once more.
  abbrev pub candidate_failed : Root → Names → ℕ → ScanCause → Act (Unit {0})
  candidate_failed r p k NotFound = vanished r p
  candidate_failed r p k (Number n) = do
    report (scan_fault p (Number n))
    retry_transient_candidate r p k

  -- A candidate as it is classified.
  abbrev pub candidate_by : Root → Names → ℕ → Classified → Act (Unit {0})
  candidate_by r p k (Ok (directory c)) = candidate_permitted r p k (canonical c) (candidate_allowed w.verdict r.path p)
  candidate_by r p k (Ok symlink) = drop_candidate r p
  candidate_by r p k (Ok other) = drop_candidate r p
  candidate_by r p k (Err c) = candidate_failed r p k c

  -- A candidate work.
  unfoldable pub step_candidate : Root → Names → ℕ → Act (Unit {0})
  step_candidate r p k =
      looking (λ s. cond (not (is_configured s r) || not r.recursive) (change (drop_retry_candidate r p))
      (cond (is_skipped s p) pass
      (cond (is_tombstoned s p) (change (drop_retry_candidate r p))
      (candidate_by r p k (w.classified p (follows s))))))

  -- A scan work, if the root owns the path.
  unfoldable pub step_scan : Root → Names → ℕ → Act (Unit {0})
  step_scan r p k = looking (λ s. cond (is_configured s r && has_source_owner s p r) (scan_by r p k (w.listed p)) pass)

  -- A probe work.
  unfoldable pub step_probe : Names → Act (Unit {0})
  step_probe p = looking (λ s. probe_by p (candidate_roots s p true) (w.classified p (follows s)))

  -- The five kinds of work.
  abbrev pub step_work : Work → Act (Unit {0})
  step_work (guard_work r) = step_guard r
  step_work (root_work r) = step_root r
  step_work (candidate_work r p k) = step_candidate r p k
  step_work (scan_work r p k) = step_scan r p k
  step_work (probe_work p) = step_probe p
