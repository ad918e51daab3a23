-- What is opened at each goal that has no answer: the model, and each definition that a method goes by.
use Rattle.std.specs.Prelude.{⊤}
use Rattle.rules.specs.State.{is_configured, has_tombstone, is_skipped, identity_at, is_logical, watch_path_of, is_recorded, is_watched, guard_at, guarded_by, guards_roots, is_owned, is_marked, has_aliases, is_latched, nothing_waits, has_work, needs_retry, concerns_any, follows, kind_of, is_reported, is_current}
use Rattle.rules.specs.Edits.{push_front, put_logical, put_owner, put_record, put_guard, put_guarded, put_skipped, put_tombstone, put_retry_root, count_failure, failures_at, room_for_path, room_for_record, room_for_guard, drop_failure, drop_skipped, drop_retry_root, lift_tombstones, drop_tombstone, drop_logical, drop_owner, drop_record, drop_guard, drop_guarded, loosen}
use Rattle.rules.specs.Adding.{set_latch, set_reported}
use Rattle.rules.specs.Calls.{fresh}
use Rattle.state.specs.Model.{model}

unfoldable pub opened : ⊤
unfolding model fresh set_latch set_reported push_front put_logical put_owner put_record put_guard put_guarded put_skipped put_tombstone put_retry_root count_failure failures_at room_for_path room_for_record room_for_guard drop_failure drop_skipped drop_retry_root lift_tombstones drop_tombstone drop_logical drop_owner drop_record drop_guard drop_guarded loosen is_configured has_tombstone is_skipped identity_at is_logical watch_path_of is_recorded is_watched guard_at guarded_by guards_roots is_owned is_marked has_aliases is_latched nothing_waits has_work needs_retry concerns_any follows kind_of is_reported is_current
opened = tt
