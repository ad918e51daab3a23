use Rattle.std.proofs.Common.{sym, ap, ◌∙◌, ap₂}
use Rattle.rules.specs.Edits.{edited, put_owner}
use Rattle.rules.specs.Roots.{order_owned}
use Rattle.rules.specs.Setters.{with_owners}
use Rattle.tables.proofs.Entered.{entered_there}
use Rattle.state.specs.Model.{model}
use Rattle.state.proofs.Lent.{held_there}
use Rattle.state.proofs.inner.Inner.put_owner.Goals as goal

pub returns-in-Some : goal.returns-in-Some
unfolding model put_owner
returns-in-Some c =
    let xs = c.self.inside.owners in
    let k = c.args.owner.now in
    let n = c.self.inside.epoch in
    let t = sym (entered_there order_owned 128 k n xs (held_there order_owned k xs c.in-Some.ensures.finds)) in
    rw (← c.self.view_is) (ap₂ (λ r ys. edited r (with_owners ys (model c.self.inside))) (ap (λ q. q.0) t) (c.get_mut.follows.holds n ∙ ap (λ q. q.1) t))
