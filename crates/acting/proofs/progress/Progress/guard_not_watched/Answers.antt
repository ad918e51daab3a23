use Rattle.rules.specs.Guarding.{guard_not_watched}
use Rattle.acting.proofs.progress.Progress.guard_not_watched.Goals as goal

pub returns : goal.returns
unfolding guard_not_watched
returns c = rw (← c.self.view_is, ← c.in_ok-put_retry_root.ensures, c.in_ok-how.ensures) c.guard_failed.ensures
