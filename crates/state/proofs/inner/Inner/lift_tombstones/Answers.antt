use Rattle.std.proofs.Common.{rules, not, ap}
use Rattle.std.proofs.lemmas.Fn.{always_returns_same}
use Rattle.paths.specs.Names.{starts_with}
use Rattle.rules.specs.Edits.{lift_tombstones}
use Rattle.rules.specs.Setters.{with_tombstones}
use Rattle.state.specs.Model.{model}
use Rattle.state.proofs.inner.Inner.lift_tombstones.Goals as goal

pub returns : goal.returns
unfolding model lift_tombstones
returns c = rw (← c.self.view_is) (ap (λ xs. with_tombstones xs (model c.self.inside)) (c.retain.ensures (λ e. not (starts_with c.args.path.now e.key)) (always_returns_same _ _ _ (λ a r f k. search rules))))
