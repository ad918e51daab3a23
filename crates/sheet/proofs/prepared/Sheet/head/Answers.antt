use Rattle.std.proofs.Common.{rules, ap, ap₂, ◌∙◌}
use Rattle.std.proofs.lemmas.Fn.{always_returns_same}
use Rattle.sheet.specs.Edits.{with_listings, with_items, others, unless_refused}
use Rattle.sheet.specs.Model.{rows}
use Rattle.sheet.proofs.prepared.Sheet.head.Goals as goal

pub returns-clause-after : goal.returns-clause-after
returns-clause-after c =
    let s = rows c.args.self.now in
    ap₂ (λ l i. with_listings l (with_items i s)) c.insert.ensures.items
    (c.retain.ensures _ (always_returns_same _ _ _ (λ a r f' k. search rules)) ∙ ap (λ r. unless_refused r (others c.args.path.now s.items) s.items) c.in_ok-insert.ensures.value)
