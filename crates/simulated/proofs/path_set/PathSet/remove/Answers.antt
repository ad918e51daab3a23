use Rattle.std.proofs.Common.{ap, ◌∙◌}
use Rattle.simulated.specs.Paths.{keys, parted}
use Rattle.simulated.proofs.Seen.{parted_keys}
use Rattle.simulated.proofs.path_set.PathSet.remove.Goals as goal

pub returns : goal.returns
returns g c = ap keys c.forget.ensures ∙ (parted_keys c.args.path.now c.self.inside.table ∙ ap (parted c.args.path.now) c.self.view_is)
