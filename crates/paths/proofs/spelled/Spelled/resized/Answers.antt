use Rattle.std.proofs.Common.{length, take, sym, ap, ◌∙◌, arith}
use Rattle.paths.specs.Names.{render}
use Rattle.paths.specs.Bytes.{parse}
use Rattle.paths.proofs.Renders.{copied}
use Rattle.paths.proofs.spelled.Spelled.resized.Goals as goal

pub invariant_of-result : goal.invariant_of-result
invariant_of-result g c =
    let i = c.self.invariant in
    let w = c.bytes.ensures.within in
    let r = ap (λ p. length (render p)) c.self.view_is in
    (copied g.row.M c.bytes.result.now c.copy.new.to c.self.inside.len c.self.inside.depth (parse (take c.self.inside.len c.self.inside.text)) i.4 i.1 (omega (arith, c.requires, i.1)) i.3 (c.bytes.ensures.value ∙ sym (ap render c.self.view_is)) c.copy.ensures).1
