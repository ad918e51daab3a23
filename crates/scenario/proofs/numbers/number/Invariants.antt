use Rattle.std.proofs.Common.{◌≡◌, ◌^◌, ◌<◌, drop}
use Rattle.scenario.specs.Numbers.{onward}
use Rattle.scenario.proofs.numbers.number.Given as goal

abbrev pub invariant-loop-b : goal.invariant-loop-b
invariant-loop-b l = (onward l.value (drop l.b-index l.word) ≡ onward 0 l.word) × (l.value < 2 ^ 64)
