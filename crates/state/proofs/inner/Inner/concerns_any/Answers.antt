use Rattle.std.proofs.Common.{rules}
use Rattle.std.proofs.lemmas.Fn.{always_returns_same}
use Rattle.rules.specs.State.{concerns_any}
use Rattle.state.specs.Model.{model}
use Rattle.state.proofs.inner.Inner.concerns_any.Goals as goal

pub returns : goal.returns
unfolding model concerns_any
returns c = search (rules, always_returns_same) depth 9
