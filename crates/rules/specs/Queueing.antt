-- What is queued, forgotten and gathered without a request.
use Rattle.std.specs.Prelude.{ℕ, ◌+◌, ◌-◌, Bool, true, false, cond, not, ◌&&◌, ◌||◌, List, [], ◌∷◌, map, length, filter, ◌==◌, nat_lt}
use Rattle.paths.specs.Names.{Names, up, same_path, starts_with}
use Rattle.paths.specs.Order.{before_path}
use Rattle.tables.specs.declared.entry.Entry.{Entry}
use Rattle.tables.specs.Lists.{any}
use Rattle.rules.specs.declared.progress.Phase.TheVariants.{Traversing, Sweeping}
use Rattle.rules.specs.Lists.{keys, put, sorted}
use Rattle.rules.specs.Roots.{Root, same_root, before_root, Owned, Share}
use Rattle.rules.specs.State.{State, Stale, Work, guard_work, root_work, candidate_work, scan_work, probe_work, is_configured, is_logical}
use Rattle.rules.specs.Setters.{with_owners, with_work, with_seen, with_sweep, with_phase, with_skipped, with_failures, with_retry_candidates, with_retry_roots, with_tombstones, with_latched, with_reported, with_refresh, with_epoch}
use Rattle.rules.specs.Edits.{Edit, ◌⨾◌, set_by, nothing, seeing, for_each, push_back, push_front, queue_removal, queue_owner_removal, drop_seen}

-- Roots that own the path with the current mark, are recursive and configured; ascending.
unfoldable pub live_owners : State → Names → List Root
live_owners s p = map (λ e. e.key.root) (filter (λ e. same_path e.key.path p && e.value == s.epoch && e.key.root.recursive && is_configured s e.key.root) s.owners)

-- The root is put into an ascending list of roots, unless it is there.
abbrev pub join_root : Root → List Root → List Root
join_root r rs = cond (any (λ q. same_root q r) rs) rs (put before_root r rs)

-- All these roots in the list.
abbrev pub join_roots : List Root → List Root → List Root
join_roots [] rs = rs
join_roots (q ∷ qs) rs = join_root q (join_roots qs rs)

-- The roots for which a path is a candidate: live owners of its parent, and of itself where that is wanted.
unfoldable pub candidate_roots : State → Names → Bool → List Root
candidate_roots s [] true = live_owners s []
candidate_roots s [] false = []
candidate_roots s (n ∷ p) true = join_roots (live_owners s (n ∷ p)) (live_owners s p)
candidate_roots s (n ∷ p) false = live_owners s p

-- The path at which a waiting work counts; a guard's is the parent of its root.
abbrev pub work_path : Work → Names
work_path (guard_work r) = up r.path
work_path (root_work r) = r.path
work_path (candidate_work r p k) = p
work_path (scan_work r p k) = p
work_path (probe_work p) = p

-- A root or guard work of a configured root.
abbrev pub stays : State → Work → Bool
stays s (guard_work r) = is_configured s r
stays s (root_work r) = is_configured s r
stays s (candidate_work r p k) = false
stays s (scan_work r p k) = false
stays s (probe_work p) = false

-- Deepest first, then by descending path.
abbrev pub deeper : Names → Names → Bool
deeper p q = cond (length p == length q) (before_path q p) (nat_lt (length q) (length p))

-- All logical paths at and below the prefix are to be removed, deepest first, then by descending path.
-- Root and guard works of configured roots stay; every other work and retry there is dropped.
unfoldable pub queue_remove_prefix : Names → Edit
queue_remove_prefix prefix =
    set_by (λ s. with_work (filter (λ k. stays s k || not (starts_with (work_path k) prefix)) s.work) s)
    ⨾ set_by (λ s. with_retry_candidates (filter (λ e. not (starts_with e.key.path prefix)) s.retry_candidates) s)
    ⨾ seeing (λ s. for_each (sorted deeper (filter (λ p. starts_with p prefix) (keys s.logical))) queue_removal)

-- A candidate or scan of the root at or below the prefix.
abbrev pub is_below : Root → Names → Work → Bool
is_below r prefix (guard_work q) = false
is_below r prefix (root_work q) = false
is_below r prefix (candidate_work q p k) = same_root q r && starts_with p prefix
is_below r prefix (scan_work q p k) = same_root q r && starts_with p prefix
is_below r prefix (probe_work p) = false

-- The more names first.
abbrev pub more_names : Names → Names → Bool
more_names p q = nat_lt (length q) (length p)

-- The paths that the root owns at and below the prefix.
abbrev pub owned_below : State → Root → Names → List Names
owned_below s r prefix = map (λ e. e.key.path) (filter (λ e. starts_with e.key.path prefix && same_root e.key.root r) s.owners)

-- The root gives up what it owns at and below the prefix, deepest first, ties ascending; nothing if the prefix is no logical path.
unfoldable pub queue_remove_owner_prefix : Root → Names → Edit
queue_remove_owner_prefix r prefix =
    seeing (λ s. cond (is_logical s prefix)
    (set_by (λ t. with_retry_candidates (filter (λ e. not (same_root e.key.root r && starts_with e.key.path prefix)) t.retry_candidates) t)
    ⨾ set_by (λ t. with_work (filter (λ k. not (is_below r prefix k)) t.work) t)
    ⨾ for_each (sorted more_names (owned_below s r prefix)) (queue_owner_removal r))
    nothing)

-- The mark with this epoch, where the test holds.
abbrev pub renewed : ℕ → Bool → Entry Owned ℕ → Entry Owned ℕ
renewed n true e = record { key = e.key; value = n }
renewed n false e = e

-- All marks of the root at and below the prefix are renewed.
unfoldable pub carry_forward : Root → Names → State → State
carry_forward r prefix s = with_owners (map (λ e. renewed s.epoch (starts_with e.key.path prefix && same_root e.key.root r) e) s.owners) s

-- A candidate with one retry.
abbrev pub candidate_of : Share → Work
candidate_of x = candidate_work x.root x.path 1

-- By the path at which they count.
abbrev pub by_path : Work → Work → Bool
by_path a b = before_path (work_path a) (work_path b)

-- Works at the back of the queue, each in turn.
unfoldable pub push_all : List Work → Edit
push_all ws = for_each ws push_back

-- Root works of the configured roots that are to be tried again, by path.
unfoldable pub root_retries : State → List Work
root_retries s = sorted by_path (map root_work (filter (is_configured s) (keys s.retry_roots)))

-- Candidates of configured roots that are to be tried again, by path, ties in the order of the roots.
unfoldable pub candidate_retries : State → List Work
candidate_retries s = sorted by_path (map candidate_of (filter (λ x. is_configured s x.root) (keys s.retry_candidates)))

-- After a place became free: the latch is lifted, then roots by path, then candidates by path.
unfoldable pub schedule_retries : Edit
schedule_retries =
    set_by (with_latched false)
    ⨾ seeing (λ s. push_all (root_retries s))
    ⨾ seeing (λ s. push_all (candidate_retries s))

-- By path, the recursive first.
abbrev pub recursive_first : Root → Root → Bool
recursive_first r q = cond (same_path r.path q.path) (r.recursive && not q.recursive) (before_path r.path q.path)

-- By the path alone.
abbrev pub root_by_path : Root → Root → Bool
root_by_path r q = before_path r.path q.path

-- The work of an epoch: guards of all guarded roots, retry candidates, retry roots, then every configured root.
unfoldable pub restart_epoch_work : Edit
restart_epoch_work =
    set_by (λ s. with_work [] (with_seen [] (with_sweep [] (with_phase Traversing s))))
    ⨾ set_by (λ s. with_retry_roots (filter (λ e. is_configured s e.key) s.retry_roots) s)
    ⨾ set_by (λ s. with_retry_candidates (filter (λ e. is_configured s e.key.root) s.retry_candidates) s)
    ⨾ seeing (λ s. push_all (map guard_work (sorted root_by_path (keys s.guarded))))
    ⨾ seeing (λ s. push_all (map candidate_of (keys s.retry_candidates)))
    ⨾ seeing (λ s. push_all (map root_work (keys s.retry_roots)))
    ⨾ seeing (λ s. push_all (map root_work (sorted recursive_first (keys s.roots))))

-- A new epoch: the latch, the skips and the failures are forgotten, and tombstones are due to be refreshed.
unfoldable pub begin_epoch : Edit
begin_epoch =
    set_by (λ s. with_epoch (s.epoch + 1) (with_latched false (with_reported false (with_skipped [] (with_failures [] (with_refresh true s))))))
    ⨾ restart_epoch_work

-- An owner is stale if its mark is of another epoch or its root is not configured.
abbrev pub is_stale : State → Entry Owned ℕ → Bool
is_stale s e = not (e.value == s.epoch) || not (is_configured s e.key.root)

-- In the order of the sweep; owners of one path keep their order.
abbrev pub deeper_stale : Stale → Stale → Bool
deeper_stale x y = deeper x.path y.path

-- The stale owners, deepest first, then by descending path, then by ascending root.
unfoldable pub stale_owners : State → List Stale
stale_owners s = sorted deeper_stale (map (λ e. record { path = e.key.path; root = e.key.root; epoch = s.epoch }) (filter (is_stale s) s.owners))

-- The stale owners are to be swept.
unfoldable pub prepare_sweep : State → State
prepare_sweep s = with_sweep (stale_owners s) (with_phase Sweeping s)

-- What was held against a path at or below is forgotten, and the tombstones above it too.
unfoldable pub clear_authoritative_prefix : Names → State → State
clear_authoritative_prefix p s =
    with_tombstones (filter (λ e. not (starts_with e.key p) && not (starts_with p e.key)) s.tombstones)
    (with_skipped (filter (λ e. not (starts_with e.key p)) s.skipped)
    (with_failures (filter (λ e. not (starts_with e.key p)) s.failures) s))

-- Guard works of the guarded roots at and below go to the front, each in turn.
unfoldable pub requeue_guarded_roots_below : Names → Edit
requeue_guarded_roots_below p = seeing (λ s. for_each (filter (λ r. starts_with r.path p) (keys s.guarded)) (λ r. push_front (guard_work r)))

-- A root or guard work of the root waits.
abbrev pub is_work_of : Root → Work → Bool
is_work_of r (guard_work q) = same_root q r
is_work_of r (root_work q) = same_root q r
is_work_of r (candidate_work q p k) = false
is_work_of r (scan_work q p k) = false
is_work_of r (probe_work p) = false

-- The root is to be looked at anew, unless it is anyway.
unfoldable pub requeue_root : Root → Edit
requeue_root r = set_by (drop_seen r) ⨾ seeing (λ s. cond (any (is_work_of r) s.work) nothing (push_back (root_work r)))

-- The configured roots at and below are to be looked at anew.
unfoldable pub requeue_configured_roots_below : Names → Edit
requeue_configured_roots_below p = seeing (λ s. for_each (filter (λ r. starts_with r.path p) (keys s.roots)) requeue_root)

-- The candidate is tried once more while it has a retry left.
unfoldable pub again_candidate : Root → Names → ℕ → Edit
again_candidate r p k = cond (nat_lt 0 k) (push_back (candidate_work r p (k - 1))) nothing

-- The scan is made once more while it has a retry left.
unfoldable pub again_scan : Root → Names → ℕ → Edit
again_scan r p k = cond (nat_lt 0 k) (push_back (scan_work r p (k - 1))) nothing

-- A failed scan: the marks below are renewed, and it is made once more.
unfoldable pub retry_transient_scan : Root → Names → ℕ → Edit
retry_transient_scan r p k = set_by (carry_forward r p) ⨾ again_scan r p k

-- Guard works, at the back, of the configured roots at exactly this path.
unfoldable pub queue_guards_at : Names → Edit
queue_guards_at p = seeing (λ s. for_each (filter (λ r. same_path r.path p) (keys s.roots)) (λ r. push_back (guard_work r)))
