use Rattle.std.proofs.Common.{refl, sym, ap, ◌∙◌, arith}
use Rattle.tables.specs.Entries.{under, ascending}
use Rattle.tables.specs.Lists.{any, without}
use Rattle.tables.proofs.Entered.{ascending_without, gone}
use Rattle.tables.proofs.Sought.{hit, missed}
use Rattle.tables.proofs.ascending.Table.remove.Goals as goal

pub remove-requires : goal.remove-requires
remove-requires g c = let h = hit g.K.Ord.cmp g.met.K.Ord.total c.args.key.now c.self.view_is c.self.invariant.2 c.in-Ok.ensures in omega (arith, c.self.inside.items.ok.0, h.within)

pub invariant_of-self : goal.invariant_of-self
invariant_of-self g c =
    let h = hit g.K.Ord.cmp g.met.K.Ord.total c.args.key.now c.self.view_is c.self.invariant.2 c.in-Ok.ensures in
    (omega (arith, c.remove.ensures.len, c.self.invariant.0), omega (arith, c.remove.ensures.capacity, c.self.invariant.1), ap (ascending g.K.Ord.cmp) (c.remove.ensures.items ∙ sym h.left) ∙ ascending_without g.K.Ord.cmp c.self.inside.items.items c.self.invariant.2 (under g.K.Ord.cmp c.args.key.now))

pub returns-in-Ok : goal.returns-in-Ok
returns-in-Ok g c =
    let h = hit g.K.Ord.cmp g.met.K.Ord.total c.args.key.now c.self.view_is c.self.invariant.2 c.in-Ok.ensures in
    let t = under g.K.Ord.cmp c.args.key.now in
    let e = c.remove.ensures.items ∙ sym h.left in
    record {
      value = sym h.some ∙ ap (any t) c.self.view_is;
      items = e ∙ ap (without t) c.self.view_is;
      gone = ap (any t) e ∙ gone g.K.Ord.cmp g.met.K.Ord.total c.args.key.now c.self.inside.items.items c.self.invariant.2;
    }

pub returns-in-Err : goal.returns-in-Err
returns-in-Err g c =
    let m = missed g.K.Ord.cmp g.met.K.Ord.total c.args.key.now {xs = c.args.self.now} refl c.in-Err.ensures in
    record { value = sym m.0.none; items = sym m.0.left; gone = m.0.none }
