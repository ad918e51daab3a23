use Rattle.std.proofs.Common.{◌&&◌, rules, arith}
use Rattle.std.proofs.lemmas.Fn.{always_returns_same}
use borrow.Author.Tests.{tests}
use Rattle.rules.specs.Roots.{same_identity}
use Rattle.rules.specs.State.{has_aliases}
use Rattle.state.specs.Model.{model}
use Rattle.state.proofs.inner.Inner.has_aliases.Goals as goal

pub returns-then-any : goal.returns-then-any
unfolding model has_aliases
returns-then-any c =
    let a = c.any.ensures (λ e. same_identity e.value c.args.identity.now) (always_returns_same _ _ _ (λ a r f k. search rules)) in
    rw (← c.self.view_is) (grind arith)

pub returns-else-any : goal.returns-else-any
unfolding model has_aliases
returns-else-any c =
    let a = c.any.ensures (λ e. same_identity e.value c.args.identity.now) (always_returns_same _ _ _ (λ a r f k. search rules)) in
    let b = c.any-else-any.ensures (λ e. e.value.attached && same_identity e.value.identity c.args.identity.now) (always_returns_same _ _ _ (λ a r f k. search (rules, tests))) in
    rw (← c.self.view_is) (grind arith)
