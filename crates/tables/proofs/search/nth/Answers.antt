use Rattle.std.proofs.Common.{rules, ◌∙◌, ap}
use Rattle.std.proofs.lemmas.Iterator.{YieldsList-from_slice}
use Rattle.std.proofs.lemmas.Iterator.Consumers.{nth_from_yields_List, YieldsList-from_filter}
use Rattle.tables.proofs.Calls.{spoken}
use Rattle.tables.proofs.search.nth.Goals as goal

pub returns : goal.returns
returns g c test h =
    nth_from_yields_List c.nth.result _ c.args.number c.nth.ensures.ran
    (YieldsList-from_filter _ test (YieldsList-from_slice c.args.items.now (ap (λ i. i.rest.now) c.filter.ensures.source ∙ c.iter.ensures.rest)) c.filter.ensures.closure (λ x b q k.
    let s = spoken g.F.Fn g.met.F.FnMut.1 g.met.F.Fn.1 c.args.passes test h in
    search (rules, s)))
