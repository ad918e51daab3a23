use Rattle.std.proofs.Common.{sym, ap, ◌∙◌, arith}
use Rattle.std.specs.Option.{option_map}
use Rattle.tables.specs.Entries.{held}
use Rattle.tables.proofs.Sought.{hit, missed}
use Rattle.tables.proofs.ascending.Table.get.Goals as goal

pub index-requires : goal.index-requires
index-requires g c = let h = hit g.K.Ord.cmp g.met.K.Ord.total c.args.key.now c.self.view_is c.self.invariant.2 c.in-Ok.ensures in omega (arith, c.self.inside.items.ok.0, h.within)

pub returns-in-Ok : goal.returns-in-Ok
returns-in-Ok g c =
    let h = hit g.K.Ord.cmp g.met.K.Ord.total c.args.key.now c.self.view_is c.self.invariant.2 c.in-Ok.ensures in
    sym (ap (option_map (λ e. e.value)) (h.found _ c.index.ensures)) ∙ ap (held g.K.Ord.cmp c.args.key.now) c.self.view_is

pub returns-in-Err : goal.returns-in-Err
returns-in-Err g c =
    let m = missed g.K.Ord.cmp g.met.K.Ord.total c.args.key.now c.self.view_is c.in-Err.ensures in
    sym (ap (option_map (λ e. e.value)) m.0.found) ∙ ap (held g.K.Ord.cmp c.args.key.now) c.self.view_is
