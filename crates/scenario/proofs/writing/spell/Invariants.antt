use Rattle.std.proofs.Common.{◌≡◌, ◌+◌, ◌-◌, ◌*◌, ◌≤◌, ◌++◌, length, drop, string_bytes, string_len, string_capacity}
use Rattle.scenario.specs.Escapes.{spelt}
use Rattle.scenario.proofs.writing.spell.Given as goal

abbrev pub invariant-loop-b : goal.invariant-loop-b
invariant-loop-b l =
    (string_bytes l.out ++ spelt (drop l.b-index l.text) ≡ string_bytes l.initial.out ++ spelt l.text)
    × (string_len l.out + 3 * (length l.text - l.b-index) ≤ string_capacity l.out)
