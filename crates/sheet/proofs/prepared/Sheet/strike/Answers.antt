use Rattle.std.proofs.Common.{rules, not}
use Rattle.std.proofs.lemmas.Fn.{always_returns_same}
use Rattle.paths.specs.Names.{starts_with}
use Rattle.sheet.proofs.Kept.{kept_unlinked, same_rows}
use Rattle.sheet.proofs.prepared.Sheet.strike.Goals as goal

pub invariant_of-self : goal.invariant_of-self
invariant_of-self c =
    let f = c.retain.ensures (λ e. not (starts_with e.key c.args.path.now)) (always_returns_same _ _ _ (λ a r f' k. search rules)) in
    record { no_links = rw f (kept_unlinked (λ e. not (starts_with e.key c.args.path.now)) c.args.self.now.followed c.args.self.now.no_links) }

pub returns : goal.returns
returns c = same_rows
    (c.retain.ensures _ (always_returns_same _ _ _ (λ a r f' k. search rules)))
    (c.retain-2.ensures _ (always_returns_same _ _ _ (λ a r f' k. search rules)))
    (c.retain-3.ensures _ (always_returns_same _ _ _ (λ a r f' k. search rules)))
    (c.retain-4.ensures _ (always_returns_same _ _ _ (λ a r f' k. search rules)))
