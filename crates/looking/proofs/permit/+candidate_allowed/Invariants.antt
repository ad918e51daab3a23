use Rattle.std.proofs.Common.{length}
use Rattle.looking.proofs.permit.+candidate_allowed.Given as goal

abbrev pub decreases-candidate_allowed : goal.decreases-candidate_allowed
decreases-candidate_allowed g l = length l.path.now
