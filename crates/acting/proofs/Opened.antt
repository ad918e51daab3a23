-- What is opened at each goal that has no answer: each definition that a method goes by.
use Rattle.std.specs.Prelude.{⊤}
use Rattle.rules.specs.Acts.{reported}
use Rattle.rules.specs.Adding.{latch, fail, not_watched, enter_watched, add_alias, renew_mark}
use Rattle.rules.specs.Guarding.{root_appeared, retry_root_at, guard_not_watched, guard_must_rebuild, recheck_guarded_root, install_guard, join_guard}

unfoldable pub opened : ⊤
unfolding reported latch fail not_watched enter_watched add_alias renew_mark root_appeared retry_root_at guard_not_watched guard_must_rebuild recheck_guarded_root install_guard join_guard
opened = tt
