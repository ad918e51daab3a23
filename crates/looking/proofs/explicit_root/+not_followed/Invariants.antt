use Rattle.std.proofs.Common.{length}
use Rattle.looking.proofs.explicit_root.+not_followed.Given as goal

abbrev pub decreases-not_followed : goal.decreases-not_followed
decreases-not_followed g l = length l.path.now
