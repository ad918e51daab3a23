use Rattle.std.proofs.Common.{refl, sym, ap, ◌∙◌, arith}
use Rattle.std.specs.Option.{option_map}
use Rattle.tables.specs.Entries.{held, ascending, revalued}
use Rattle.tables.proofs.Entered.{ascending_revalued}
use Rattle.tables.proofs.Sought.{hit, missed}
use Rattle.tables.proofs.ascending.Table.get_mut.Goals as goal

pub index_mut-requires : goal.index_mut-requires
index_mut-requires g c = let h = hit g.K.Ord.cmp g.met.K.Ord.total c.args.key.now refl c.self.invariant.2 c.in-Ok.ensures in omega (arith, c.self.inside.items.ok.0, h.within)

pub invariant_of-self-lent : goal.invariant_of-self-lent
invariant_of-self-lent g c w =
    let h = hit g.K.Ord.cmp g.met.K.Ord.total c.args.key.now refl c.self.invariant.2 c.in-Ok.ensures in (
      c.self.invariant.0,
      c.self.invariant.1,
      ap (ascending g.K.Ord.cmp) (sym (h.same _ _ c.index_mut.ensures.value)) ∙ ascending_revalued g.K.Ord.cmp c.self.inside.items.items c.self.invariant.2 c.args.key.now (λ _. w),
    )

pub returns-in-Ok : goal.returns-in-Ok
returns-in-Ok g c =
    let h = hit g.K.Ord.cmp g.met.K.Ord.total c.args.key.now refl c.self.invariant.2 c.in-Ok.ensures in
    let v = c.index_mut.ensures.value in (
      (refl, (λ w. sym (h.same _ _ v) ∙ ap (revalued g.K.Ord.cmp c.args.key.now (λ _. w)) c.self.view_is), refl),
      record { lends = tt; finds = sym (ap (option_map (λ e. e.value)) (h.found _ v)) ∙ ap (held g.K.Ord.cmp c.args.key.now) c.self.view_is },
    )

pub returns-in-Err : goal.returns-in-Err
returns-in-Err g c =
    let m = missed g.K.Ord.cmp g.met.K.Ord.total c.args.key.now refl c.in-Err.ensures in (
      (refl, (λ w. sym (m.0.same _) ∙ ap (revalued g.K.Ord.cmp c.args.key.now (λ _. w)) c.self.view_is), c.self.view_is),
      record { lends = tt; finds = sym (ap (option_map (λ e. e.value)) m.0.found) ∙ ap (held g.K.Ord.cmp c.args.key.now) c.self.view_is },
    )
