use Rattle.std.proofs.Common.{◌+◌, get_or, drop, arith}
use Rattle.std.proofs.lemmas.List.{at_drop_more}
use Rattle.scenario.specs.Numbers.{onward}
use Rattle.scenario.proofs.Digits.{onward_refused}
use Rattle.scenario.proofs.numbers.number.Goals as goal

pub returns-in_err-value : goal.returns-in_err-value
returns-in_err-value c =
    let word = c.args.word.now in
    let e = at_drop_more (onward c.loop-b.value) word c.loop-b.b-index 0 c.loop-b-test.true in
    let s = onward_refused c.loop-b.value (get_or word c.loop-b.b-index 0) (drop (c.loop-b.b-index + 1) word) c.in_err-value.ensures in
    grind arith
