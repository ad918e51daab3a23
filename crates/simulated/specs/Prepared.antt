-- How an outcome and the path beside it hold an answer.
use Rattle.std.specs.Prelude.{◌≡◌, true, is_ok, None, Ok, Err, Option, Result, refl}
use Rattle.std.proofs.Common.{sym}
use Rattle.paths.specs.Names.{Names}
use Rattle.outside.specs.declared.cause.BackendCause.{BackendCause}
use Rattle.outside.specs.Requests.{Answer, done, failed}
use Rattle.outside.specs.Model.{answered}

-- Where the outcome is no cause, no path stands beside it.
abbrev pub bare : Result (Unit {0}) BackendCause → Option Names → Type 0
bare r at = is_ok r ≡ true → at ≡ None

-- The outcome and the path of an answer.
abbrev pub outcome_of : Answer → Result (Unit {0}) BackendCause
outcome_of done = Ok tt
outcome_of (failed c at) = Err c

abbrev pub path_of : Answer → Option Names
path_of done = None
path_of (failed c at) = at

pub outcome_kept : (r : Result (Unit {0}) BackendCause) (at : Option Names) → outcome_of (answered r at) ≡ r
outcome_kept (Ok x) at = refl
outcome_kept (Err c) at = refl

pub path_kept : (r : Result (Unit {0}) BackendCause) (at : Option Names) → bare r at → path_of (answered r at) ≡ at
path_kept (Ok x) at h = sym (h refl)
path_kept (Err c) at h = refl
