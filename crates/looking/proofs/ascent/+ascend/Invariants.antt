use Rattle.std.proofs.Common.{length}
use Rattle.looking.proofs.ascent.+ascend.Given as goal

abbrev pub decreases-ascend : goal.decreases-ascend
decreases-ascend g l = length l.path.now
