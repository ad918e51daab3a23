use Rattle.std.proofs.Common.{rules}
use Rattle.std.proofs.lemmas.Fn.{always_returns_same}
use Rattle.rules.specs.State.{is_owned}
use Rattle.state.specs.Model.{model}
use Rattle.state.proofs.inner.Inner.is_owned.Goals as goal

pub returns : goal.returns
unfolding model is_owned
returns c = search (rules, always_returns_same) depth 9
