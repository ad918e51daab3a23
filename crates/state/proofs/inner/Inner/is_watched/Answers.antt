use Rattle.std.proofs.Common.{rules}
use Rattle.std.proofs.lemmas.Fn.{always_returns_same}
use Rattle.rules.specs.State.{is_watched}
use Rattle.state.specs.Model.{model}
use Rattle.state.proofs.inner.Inner.is_watched.Goals as goal

pub returns : goal.returns
unfolding model is_watched
returns c = search (rules, always_returns_same) depth 9
