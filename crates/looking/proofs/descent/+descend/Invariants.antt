use Rattle.std.proofs.Common.{length}
use Rattle.looking.proofs.descent.+descend.Given as goal

abbrev pub decreases-descend : goal.decreases-descend
decreases-descend g l = length l.path.now
