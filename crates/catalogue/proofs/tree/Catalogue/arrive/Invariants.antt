use Rattle.std.proofs.Common.{◌≡◌}
use Rattle.catalogue.specs.Ways.{arrive}
use Rattle.catalogue.proofs.tree.Catalogue.arrive.Given as goal

abbrev pub invariant-loop-left : goal.invariant-loop-left
invariant-loop-left l = arrive l.last l.self l.left-counter l.place ≡ arrive l.last l.self 8 l.initial.place
