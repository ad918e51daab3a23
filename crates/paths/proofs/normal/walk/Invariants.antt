use Rattle.std.proofs.Common.{◌≡◌, ◌+◌, ◌≤◌, true, [], length}
use Rattle.paths.proofs.normal.walk.Given as goal
use Rattle.paths.specs.Names.{render}
use Rattle.paths.specs.Texts.{walked, parts, parts_from}
use Rattle.paths.proofs.Renders.{plains}
use Rattle.paths.proofs.Parts.{spread}

abbrev pub invariant-loop-part : goal.invariant-loop-part
invariant-loop-part l =
    (walked l.wide (parts_from l.part-iterator.text.now l.part-iterator.at) ≡ walked l.initial.wide (parts [] l.text))
    × (plains (parts_from l.part-iterator.text.now l.part-iterator.at) ≡ true)
    × (length (render l.wide) + spread (parts_from l.part-iterator.text.now l.part-iterator.at) ≤ 129)
