-- How far the walk over a line's words has come.
use Rattle.std.specs.Prelude.{ℕ, length}
use Rattle.scenario.specs.Walk.{yet}
use Rattle.linenplane.specs.declared.args.Args.{Args}

-- How many words are left.
abbrev pub left : Args → ℕ
left a = length (yet a.words)
