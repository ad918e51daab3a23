use Rattle.std.proofs.Common.{rules}
use Rattle.std.proofs.lemmas.Fn.{always_returns_same}
use Rattle.paths.specs.Names.{same_name}
use Rattle.simulated.proofs.name_filter.NameFilter.refuses.Goals as goal

pub returns : goal.returns
returns c = rw (← c.self.view_is) (c.any.ensures (λ m. same_name m c.args.name.now) (always_returns_same _ _ _ (λ a r f' k. search rules)))
