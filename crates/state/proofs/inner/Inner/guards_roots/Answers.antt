use Rattle.std.proofs.Common.{rules}
use Rattle.std.proofs.lemmas.Fn.{always_returns_same}
use Rattle.rules.specs.State.{guards_roots}
use Rattle.state.specs.Model.{model}
use Rattle.state.proofs.inner.Inner.guards_roots.Goals as goal

pub returns : goal.returns
unfolding model guards_roots
returns c = search (rules, always_returns_same) depth 9
