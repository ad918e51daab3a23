use Rattle.std.proofs.Common.{sym, ap, ◌∙◌}
use Rattle.std.specs.List.{insert, prefix_len}
use Rattle.tables.specs.Room.{fitted}
use Rattle.tables.proofs.Sought.{placed_at}
use Rattle.tables.proofs.waiting.Queue.insert.Goals as goal

pub returns-clause-items : goal.returns-clause-items
returns-clause-items g c test h =
    let xs = c.args.self.now in
    let at = c.leading-at.ensures.value test h ∙ ap (prefix_len test) (c.deref.ensures.value ∙ c.self.view_is) in
    c.put_at.ensures.items ∙ ap (λ ys. (fitted g.row.N xs ys).1) (ap (λ i. insert xs i c.args.x) at ∙ sym (placed_at test c.args.x xs))
