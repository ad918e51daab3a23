use Rattle.linenplane.specs.Args.{left}
use Rattle.linenplane.proofs.world.World.list.Given as goal

abbrev pub decreases-loop-word : goal.decreases-loop-word
decreases-loop-word l = left l.args
