use Rattle.std.proofs.Common.{length}
use Rattle.catalogue.proofs.tree.Catalogue.+way.Given as goal

abbrev pub decreases-way : goal.decreases-way
decreases-way l = length l.path.now
