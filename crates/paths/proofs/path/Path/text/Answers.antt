use Rattle.paths.proofs.Normals.{reads_back}
use Rattle.paths.proofs.path.Path.text.Goals as goal

pub returns-then-depth-eq0-clause-laws : goal.returns-then-depth-eq0-clause-laws
returns-then-depth-eq0-clause-laws c = reads_back

pub returns-clause-laws : goal.returns-clause-laws
returns-clause-laws c = reads_back
