use Rattle.paths.proofs.Renders.{popped}
use Rattle.paths.proofs.spelled.Spelled.pop.Goals as goal

pub invariant_of-self : goal.invariant_of-self
invariant_of-self g c = (popped g.row.N c.self.inside.text c.blank.new.text c.self.inside.len c.self.inside.depth c.in-Some.k c.args.self.now c.self.invariant c.self.view_is c.blank.ensures c.in-Some.ensures).1

pub returns : goal.returns
returns g c = (popped g.row.N c.self.inside.text c.blank.new.text c.self.inside.len c.self.inside.depth c.in-Some.k c.args.self.now c.self.invariant c.self.view_is c.blank.ensures c.in-Some.ensures).0
