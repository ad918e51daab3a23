-- What the outside tells: something was created, removed, renamed, or is in doubt.
use Rattle.std.specs.Prelude.{Bool, true, false, cond, ◌||◌, List, [], ◌∷◌, ◌++◌, map, Some, None, Ok, Err, filter, Option, Result}
use Rattle.paths.specs.Names.{Names, within, starts_with}
use Rattle.paths.specs.Order.{order_path}
use Rattle.tables.specs.declared.full.NoPlace.{NoPlace}
use Rattle.tables.specs.Entries.{entered}
use Rattle.rules.specs.Lists.{Set, keys}
use Rattle.rules.specs.Roots.{Root, Identity, canonical}
use Rattle.rules.specs.State.{State, Guard, guard_work, candidate_work, probe_work, is_recorded, logical_aliases, guard_aliases, identity_at, guard_at}
use Rattle.rules.specs.Setters.{with_refresh}
use Rattle.rules.specs.Edits.{Edit, full, ◌⨾◌, set_by, nothing, seeing, for_each, push_back, push_front, put_tombstone, put_retry_candidate, drop_seen}
use Rattle.rules.specs.Queueing.{candidate_roots, join_roots, queue_remove_prefix, clear_authoritative_prefix, requeue_guarded_roots_below, requeue_configured_roots_below}

-- With or without the removal of what was there.
abbrev pub remove_first : Bool → Names → Edit
remove_first true p = queue_remove_prefix p
remove_first false p = nothing

-- The root looks at the path anew, before anything else.
unfoldable pub queue_candidate : Names → Root → Edit
queue_candidate p r = set_by (drop_seen r) ⨾ put_retry_candidate r p ⨾ push_front (candidate_work r p 1)

-- A path appeared: it is a candidate for the live owners of its parent.
unfoldable pub topology_create_one : Bool → Names → Edit
topology_create_one removes p =
    set_by (clear_authoritative_prefix p)
    ⨾ seeing (λ s. remove_first removes p
    ⨾ requeue_guarded_roots_below p
    ⨾ requeue_configured_roots_below p
    ⨾ for_each (candidate_roots s p false) (queue_candidate p))

-- Roots that are guarded at or below the path or lie there, and configured roots that lie there; ascending.
unfoldable pub affected : State → Names → List Root
affected s p =
    join_roots (keys (filter (λ e. starts_with e.key.path p || starts_with e.value p) s.guarded))
    (filter (λ r. starts_with r.path p) (keys s.roots))

-- A path went: what lies there is to be removed, and the roots affected need their guards.
unfoldable pub topology_remove_one : Names → Edit
topology_remove_one p =
    set_by (with_refresh false)
    ⨾ put_tombstone p
    ⨾ seeing (λ s. queue_remove_prefix p ⨾ for_each (affected s p) (λ r. push_back (guard_work r)))

-- Nobody knows what happened at a path: it is given up and probed.
unfoldable pub topology_ambiguous_one : Names → Edit
topology_ambiguous_one p =
    set_by (clear_authoritative_prefix p)
    ⨾ queue_remove_prefix p
    ⨾ push_back (probe_work p)
    ⨾ requeue_guarded_roots_below p
    ⨾ requeue_configured_roots_below p

-- A record's aliases of both kinds; none without a record.
abbrev pub aliases : State → Identity → List Names
aliases s i = cond (is_recorded s i) (logical_aliases s i ++ guard_aliases s i) []

-- The identity of a logical path, if it is one.
abbrev pub identity_of_logical : Option Identity → List Identity
identity_of_logical None = []
identity_of_logical (Some i) = i ∷ []

-- The identity of a guard, if it is one.
abbrev pub identity_of_guard : Option Guard → List Identity
identity_of_guard None = []
identity_of_guard (Some g) = g.identity ∷ []

-- What the parent may be: as a logical path, as a guard, and as a canonical path.
abbrev pub identities_of : State → Names → List Identity
identities_of s p = identity_of_logical (identity_at s p) ++ identity_of_guard (guard_at s p) ++ canonical p ∷ []

-- The aliases of each identity in turn.
abbrev pub aliases_of_all : State → List Identity → List Names
aliases_of_all s [] = []
aliases_of_all s (i ∷ is) = aliases s i ++ aliases_of_all s is

-- The paths under which a change at a path is seen: itself, its record's aliases, and its name below each alias of its parent.
abbrev pub seen_as : State → Names → List Names
seen_as s [] = [] ∷ aliases s (canonical [])
seen_as s (n ∷ p) = (n ∷ p) ∷ aliases s (canonical (n ∷ p)) ++ map (λ q. n ∷ q) (aliases_of_all s (identities_of s p))

-- The set as it was entered, or no place.
abbrev pub entered_set : Result (Unit {0}) NoPlace × Set Names → Option (Set Names)
entered_set (Ok x, ps) = Some ps
entered_set (Err e, ps) = None

-- One path more in an ascending set of at most 128, if it keeps the limits of a path.
abbrev pub gather_one : Names → Option (Set Names) → Option (Set Names)
gather_one p None = None
gather_one p (Some ps) = cond (within p) (entered_set (entered order_path 128 p tt ps)) None

-- All these paths in the set.
abbrev pub gather : List Names → Option (Set Names) → Option (Set Names)
gather [] ps = ps
gather (q ∷ qs) ps = gather qs (gather_one q ps)

-- Ascending, or no place for all of them.
unfoldable pub projected_topology_paths : State → Names → Option (Set Names)
projected_topology_paths s p = gather (seen_as s p) (Some [])

-- What went is removed, the target too, then the target appears.
abbrev pub rename_projected : Option (Set Names) → Option (Set Names) → Edit
rename_projected (Some from) (Some to) = for_each (keys from) topology_remove_one ⨾ for_each (keys to) topology_remove_one ⨾ for_each (keys to) (topology_create_one false)
rename_projected (Some from) None = full
rename_projected None to = full

-- Both projections come before any change.
unfoldable pub topology_rename : Names → Names → Edit
topology_rename from to = seeing (λ s. rename_projected (projected_topology_paths s from) (projected_topology_paths s to))
