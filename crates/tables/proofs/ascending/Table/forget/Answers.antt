use Rattle.std.proofs.Common.{sym, ap, ◌∙◌}
use Rattle.tables.specs.Entries.{under}
use Rattle.tables.specs.Lists.{any}
use Rattle.tables.proofs.Entered.{left_others}
use Rattle.tables.proofs.ascending.Table.forget.Goals as goal

pub returns : goal.returns
returns g c =
    let t = under g.K.Ord.cmp c.args.key.now in
    c.remove.ensures.items ∙ left_others t c.args.self.now (sym (ap (any t) c.remove.ensures.items) ∙ c.remove.ensures.gone)
