use Rattle.std.proofs.Common.{rules}
use Rattle.std.proofs.lemmas.Fn.{always_returns_same}
use Rattle.tables.proofs.Sought.{searched}
use Rattle.tables.proofs.ascending.Table.search.Goals as goal

pub returns : goal.returns
returns g c =
    let by_key = c.binary_search_by.ensures.position (λ e. g.K.Ord.cmp e.key c.args.key.now) (always_returns_same _ _ _ (λ a r s called. search rules)) in
    rw (← c.self.view_is, ← c.deref.ensures.value) (searched g.K.Ord.cmp g.met.K.Ord.total c.args.key.now _ (rw c.deref.ensures.value c.self.invariant.2) _ c.binary_search_by.ensures.bound by_key)
