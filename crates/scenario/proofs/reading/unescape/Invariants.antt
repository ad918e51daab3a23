use Rattle.std.proofs.Common.{◌≡◌, ◌≤◌, ◌++◌, length, map, Some, vec_items, vec_capacity}
use Rattle.scenario.specs.Escapes.{chars}
use Rattle.scenario.proofs.reading.unescape.Given as goal

abbrev pub invariant-loop-byte : goal.invariant-loop-byte
invariant-loop-byte l =
    (map Some (vec_items l.text) ++ chars l.byte-iterator.0.now ≡ chars l.word)
    × (length l.word ≤ vec_capacity l.text)
