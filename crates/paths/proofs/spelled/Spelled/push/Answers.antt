use Rattle.std.proofs.Common.{arith}
use Rattle.paths.proofs.Renders.{pushed, depth_below}
use Rattle.paths.specs.Bytes.{parse}
use Rattle.std.proofs.Common.{take}
use Rattle.paths.proofs.spelled.Spelled.push.Goals as goal

pub overflow_add-self-3 : goal.overflow_add-self-3
overflow_add-self-3 g c =
    let d = depth_below (parse (take c.self.inside.len c.self.inside.text)) in
    let i = c.self.invariant in
    omega (arith, i.1, i.2, i.3, g.N.fits)

pub invariant_of-self : goal.invariant_of-self
invariant_of-self g c =
    (pushed g.row.N c.self.inside.text c.extend.new.text c.self.inside.len c.self.inside.depth c.args.self.now c.args.name.now c.self.invariant c.self.view_is c.extend.ensures c.requires.named c.requires.room).1

pub returns : goal.returns
returns g c =
    (pushed g.row.N c.self.inside.text c.extend.new.text c.self.inside.len c.self.inside.depth c.args.self.now c.args.name.now c.self.invariant c.self.view_is c.extend.ensures c.requires.named c.requires.room).0
