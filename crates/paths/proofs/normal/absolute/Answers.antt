use Rattle.paths.proofs.Normals.{normal_form}
use Rattle.paths.proofs.normal.absolute.Goals as goal

pub returns-then-text-gt64-clause-laws : goal.returns-then-text-gt64-clause-laws
returns-then-text-gt64-clause-laws c = normal_form

pub returns-then-contains-clause-laws : goal.returns-then-contains-clause-laws
returns-then-contains-clause-laws c = normal_form

pub returns-clause-laws : goal.returns-clause-laws
returns-clause-laws c = normal_form
