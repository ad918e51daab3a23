use Rattle.std.proofs.Common.{map, Some, vec_items, arith}
use Rattle.std.proofs.lemmas.Grind.{common_steps}
use Rattle.scenario.specs.Escapes.{chars}
use Rattle.scenario.proofs.Chars.{one_stands, one_fits, read_whole}
use Rattle.scenario.proofs.reading.unescape.Goals as goal

pub unwrap-requires : goal.unwrap-requires
unwrap-requires c = one_stands c.args.word.now (map Some (vec_items c.loop-byte.text)) c.in-Some.byte (chars c.next.new.self.0.now) c.requires (cc c.in-Some.ensures.steps)

pub push_reserved-requires : goal.push_reserved-requires
push_reserved-requires c =
    let n = one_fits c.args.word.now (vec_items c.loop-byte.text) c.in-Some.byte (chars c.next.new.self.0.now) (cc c.in-Some.ensures.steps) in
    omega arith

pub returns : goal.returns
returns c =
    let e = read_whole c.args.word.now (vec_items c.loop-byte.text) in
    let s = c.in-None.ensures.steps in
    grind (arith, common_steps)
