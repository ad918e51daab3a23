use Rattle.std.proofs.Common.{refl}
use Rattle.rules.specs.Acts.{reported}
use Rattle.rules.specs.Adding.{set_latch, set_reported, latch, fail, not_watched, undo_invalid_poll_registration, enter_watched, add_alias, renew_mark, verify_poll_registration, watch_new, add_new, add_logical}
use Rattle.rules.specs.Calls.{working_directory, fresh, reconcile, created, removed, doubtful, renamed, any_public, event_is_public, close_all, watch_paths, close}
use Rattle.rules.specs.Edits.{push_back, push_front, put_logical, put_owner, put_record, put_guard, put_guarded, put_seen, put_skipped, put_tombstone, put_retry_root, put_retry_candidate, failures_at, count_failure, queue_removal, queue_owner_removal, drop_failure, drop_skipped, drop_retry_root, drop_retry_candidate, drop_seen, lift_tombstones, drop_tombstone, drop_logical, drop_owner, drop_record, drop_guard, drop_guarded, loosen, room_for_path, room_for_record, room_to_watch, room_for_guard, room_to_guard}
use Rattle.rules.specs.Guarding.{guards_root, stands, is_outdated, root_appeared, retry_root_at, guard_not_watched, clear_way, clear_above, guard_must_rebuild, recheck_guarded_root, install_guard, watch_guard, join_guard, new_guard, attach_guard, move_guard, guard_found, ensure_guard}
use Rattle.rules.specs.Looking.{not_followed, classify_explicit_root, ascend, descend, guard_place, candidate_allowed}
use Rattle.rules.specs.Notices.{queue_candidate, topology_create_one, affected, topology_remove_one, topology_ambiguous_one, projected_topology_paths, topology_rename}
use Rattle.rules.specs.Queueing.{live_owners, candidate_roots, queue_remove_prefix, queue_remove_owner_prefix, carry_forward, push_all, root_retries, candidate_retries, schedule_retries, restart_epoch_work, begin_epoch, stale_owners, prepare_sweep, clear_authoritative_prefix, requeue_guarded_roots_below, requeue_root, requeue_configured_roots_below, again_candidate, again_scan, retry_transient_scan, queue_guards_at}
use Rattle.rules.specs.Removing.{try_unwatch, end_record, alias_lost, remove_logical, unless_owned, remove_owner_force, drop_unmarked, remove_owner, detach_guard_registration, remove_root_guard}
use Rattle.rules.specs.State.{follows, kind_of, is_latched, is_reported, is_current, is_configured, is_tombstoned, has_tombstone, is_skipped, is_held_back, identity_at, is_logical, watch_path_of, is_recorded, is_watched, guard_at, guarded_by, is_guarded, guards_roots, has_source_owner, is_owned, is_marked, is_abandoned, logical_aliases, guard_aliases, guard_roots, has_aliases, guards_identity, names_identity, nothing_waits, has_work, needs_retry, concerns_any}
use Rattle.rules.specs.Stepping.{settle, refresh_tombstones, one_step, step, run_on, run}
use Rattle.rules.specs.Works.{is_seen, mark_seen, scan_unseen, fall_back, drop_candidate, retry_transient_candidate, vanished, scan_items, give_up, probe_candidates, carry_source, step_guard, add_root, root_unsafe, step_root, step_candidate, step_scan, step_probe}
use Rattle.rules.proofs.cards.cards_hold.Goals as goal

pub returns : goal.returns
unfolding reported set_latch set_reported latch fail not_watched undo_invalid_poll_registration enter_watched add_alias renew_mark verify_poll_registration watch_new add_new add_logical working_directory fresh reconcile created removed doubtful renamed any_public event_is_public close_all watch_paths close push_back push_front put_logical put_owner put_record put_guard put_guarded put_seen put_skipped put_tombstone put_retry_root put_retry_candidate failures_at count_failure queue_removal queue_owner_removal drop_failure drop_skipped drop_retry_root drop_retry_candidate drop_seen lift_tombstones drop_tombstone drop_logical drop_owner drop_record drop_guard drop_guarded loosen room_for_path room_for_record room_to_watch room_for_guard room_to_guard guards_root stands is_outdated root_appeared retry_root_at guard_not_watched clear_way clear_above guard_must_rebuild recheck_guarded_root install_guard watch_guard join_guard new_guard attach_guard move_guard guard_found ensure_guard not_followed classify_explicit_root ascend descend guard_place candidate_allowed queue_candidate topology_create_one affected topology_remove_one topology_ambiguous_one projected_topology_paths topology_rename live_owners candidate_roots queue_remove_prefix queue_remove_owner_prefix carry_forward push_all root_retries candidate_retries schedule_retries restart_epoch_work begin_epoch stale_owners prepare_sweep clear_authoritative_prefix requeue_guarded_roots_below requeue_root requeue_configured_roots_below again_candidate again_scan retry_transient_scan queue_guards_at try_unwatch end_record alias_lost remove_logical unless_owned remove_owner_force drop_unmarked remove_owner detach_guard_registration remove_root_guard follows kind_of is_latched is_reported is_current is_configured is_tombstoned has_tombstone is_skipped is_held_back identity_at is_logical watch_path_of is_recorded is_watched guard_at guarded_by is_guarded guards_roots has_source_owner is_owned is_marked is_abandoned logical_aliases guard_aliases guard_roots has_aliases guards_identity names_identity nothing_waits has_work needs_retry concerns_any settle refresh_tombstones one_step step run_on run is_seen mark_seen scan_unseen fall_back drop_candidate retry_transient_candidate vanished scan_items give_up probe_candidates carry_source step_guard add_root root_unsafe step_root step_candidate step_scan step_probe
returns c = record { cards = (refl, refl, refl, refl, (refl, refl), (refl, refl), (refl, refl), (refl, refl, refl, refl), refl, (refl, refl, refl, refl)); value = refl }
