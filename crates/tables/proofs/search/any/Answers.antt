use Rattle.std.proofs.lemmas.Iterator.{YieldsList-from_slice}
use Rattle.std.proofs.lemmas.Iterator.Search.{any_from_yields_List}
use Rattle.tables.proofs.Calls.{told}
use Rattle.tables.proofs.search.any.Goals as goal

pub returns : goal.returns
returns g c test h =
    any_from_yields_List test _ _ _ c.any.ensures.ran (YieldsList-from_slice c.args.items.now c.iter.ensures.rest) (λ x b q k. told g.F.Fn g.met.F.Fn.1 c.args.passes test h x b q k.met)
