use Rattle.std.proofs.Common.{ap, ◌∙◌}
use Rattle.paths.specs.Order.{order_path}
use Rattle.rules.specs.Edits.{detached, loosen}
use Rattle.rules.specs.Setters.{with_guards}
use Rattle.state.specs.Model.{model}
use Rattle.state.proofs.Lent.{lent_there, lent_nowhere}
use Rattle.state.proofs.inner.Inner.loosen.Goals as goal
use Rattle.state.proofs.inner.Inner.loosen.Goals.{in-Some, in_default}

pub returns : goal.returns
unfolding model loosen
returns c =
    let gs = c.self.inside.guards in
    let p = c.args.path.now in
    rw (← c.self.view_is) (elim c.match-get_mut.branch [
      | in-Some w ↦ rw w.self-inside-is (ap (λ xs. with_guards xs (model c.self.inside)) (c.get_mut.follows.holds (detached w.in-Some.guard.now) ∙ lent_there order_path p detached gs w.in-Some.ensures.finds))
      | in_default w ↦ rw w.self-inside-is (ap (λ xs. with_guards xs (model c.self.inside)) (c.get_mut.follows.holds-at-none ∙ lent_nowhere order_path p detached gs w.in_default.ensures.finds))
    ])
