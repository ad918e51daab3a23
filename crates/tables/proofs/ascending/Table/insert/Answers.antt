use Rattle.std.proofs.Common.{length, refl, sym, ap, ◌∙◌, arith}
use Rattle.tables.specs.Entries.{ascending, before, entered}
use Rattle.tables.proofs.Entered.{entered_there, entered_new, entered_full, ascending_revalued, ascending_placed}
use Rattle.tables.proofs.Sought.{hit, missed, inserted, prefix_within}
use Rattle.tables.proofs.ascending.Table.insert.Goals as goal

pub index_mut-requires : goal.index_mut-requires
index_mut-requires g c = let h = hit g.K.Ord.cmp g.met.K.Ord.total c.args.key c.self.view_is c.self.invariant.2 c.in-Ok.ensures in omega (arith, c.self.inside.items.ok.0, h.within)

pub invariant_of-self : goal.invariant_of-self
invariant_of-self g c =
    let h = hit g.K.Ord.cmp g.met.K.Ord.total c.args.key c.self.view_is c.self.invariant.2 c.in-Ok.ensures in
    (c.self.invariant.0, c.self.invariant.1, ap (ascending g.K.Ord.cmp) (sym (h.same _ _ c.index_mut.ensures.value)) ∙ ascending_revalued g.K.Ord.cmp c.self.inside.items.items c.self.invariant.2 c.args.key (λ _. c.args.value))

pub insert-requires : goal.insert-requires
insert-requires g c =
    let m = missed g.K.Ord.cmp g.met.K.Ord.total c.args.key c.self.view_is c.in-Err.ensures in
    omega (arith, m.1, prefix_within (before g.K.Ord.cmp c.args.key) c.self.inside.items.items, c.self.inside.items.ok.0)

pub invariant_of-self-in-Err : goal.invariant_of-self-in-Err
invariant_of-self-in-Err g c =
    let m = missed g.K.Ord.cmp g.met.K.Ord.total c.args.key c.self.view_is c.in-Err.ensures in
    let ok = c.insert.ensures.succeeds (omega (arith, c.self.invariant.0, c.self.invariant.1, c.if-len.false, c.len.ensures)) in
    let it = c.insert.ensures.items in
    let ln = c.insert.ensures.len in
    let p = inserted g.K.Ord.cmp c.args.key c.args.value c.self.inside.items.items c.in-Err.at m.1 in
    let a = ascending_placed g.K.Ord.cmp g.row.N c.args.key c.args.value c.self.inside.items.items g.met.K.Ord.total m.0.none c.self.invariant.2 in
    (grind arith, omega (arith, c.insert.ensures.capacity, c.self.invariant.1), grind arith)

pub returns-in-Ok : goal.returns-in-Ok
returns-in-Ok g c =
    let h = hit g.K.Ord.cmp g.met.K.Ord.total c.args.key c.self.view_is c.self.invariant.2 c.in-Ok.ensures in
    let e = sym (entered_there g.K.Ord.cmp g.row.N c.args.key c.args.value c.self.inside.items.items h.some) ∙ ap (entered g.K.Ord.cmp g.row.N c.args.key c.args.value) c.self.view_is in
    record { value = ap (λ p. p.0) e; items = sym (h.same _ _ c.index_mut.ensures.value) ∙ ap (λ p. p.1) e }

pub returns-then-len : goal.returns-then-len
returns-then-len g c =
    let m = missed g.K.Ord.cmp g.met.K.Ord.total c.args.key {xs = c.args.self.now} refl c.in-Err.ensures in
    let e = sym (entered_full g.K.Ord.cmp g.row.N c.args.key c.args.value c.args.self.now m.0.none (omega (arith, ap length c.self.view_is, c.self.inside.items.ok.0, c.if-len.true, c.len.ensures))) in
    record { value = ap (λ p. p.0) e; items = ap (λ p. p.1) e }

pub returns-else-len : goal.returns-else-len
returns-else-len g c =
    let m = missed g.K.Ord.cmp g.met.K.Ord.total c.args.key c.self.view_is c.in-Err.ensures in
    let e = sym (entered_new g.K.Ord.cmp g.row.N c.args.key c.args.value c.self.inside.items.items m.0.none (omega (arith, c.self.inside.items.ok.0, c.if-len.false, c.len.ensures))) ∙ ap (entered g.K.Ord.cmp g.row.N c.args.key c.args.value) c.self.view_is in
    let ok = c.insert.ensures.succeeds (omega (arith, c.self.invariant.0, c.self.invariant.1, c.if-len.false, c.len.ensures)) in
    let it = c.insert.ensures.items in
    let p = inserted g.K.Ord.cmp c.args.key c.args.value c.self.inside.items.items c.in-Err.at m.1 in
    record { value = ap (λ p. p.0) e; items = grind arith ∙ ap (λ p. p.1) e }
