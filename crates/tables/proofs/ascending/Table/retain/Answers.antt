use Rattle.std.proofs.Common.{ap, ◌∙◌, arith}
use Rattle.std.specs.List.{filter}
use Rattle.std.proofs.lemmas.Fn.{filter_same}
use Rattle.tables.specs.Entries.{ascending}
use Rattle.tables.proofs.Entered.{ascending_where}
use Rattle.tables.proofs.Calls.{told}
use Rattle.tables.proofs.ascending.Table.retain.Goals as goal

pub invariant_of-self : goal.invariant_of-self
invariant_of-self g c =
    let k = c.retain.ensures.filtered in (
      omega (arith, c.retain.ensures.bound, c.self.invariant.0),
      omega (arith, c.retain.ensures.capacity, c.self.invariant.1),
      ap (ascending g.K.Ord.cmp) k.4 ∙ ascending_where g.K.Ord.cmp c.self.inside.items.items c.self.invariant.2 k.0,
    )

pub returns : goal.returns
returns g c test h =
    filter_same _ test _ (λ x b q k. let t = told g.F.Fn g.met.F.Fn.1 c.args.keep test h k.shown b q k.called.met in (t.1 ∙ ap test k.shows, t.0)) _ _ c.retain.ensures.filtered ∙ ap (filter test) c.self.view_is
