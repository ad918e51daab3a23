use Rattle.std.proofs.Common.{rules, not, ap₂}
use Rattle.std.proofs.lemmas.Fn.{always_returns_same}
use Rattle.paths.specs.Names.{same_path}
use Rattle.rules.specs.Edits.{drop_logical}
use Rattle.rules.specs.Setters.{with_logical, with_owners}
use Rattle.state.specs.Model.{model}
use Rattle.state.proofs.inner.Inner.drop_logical.Goals as goal

pub returns : goal.returns
unfolding model drop_logical
returns c =
    rw (← c.self.view_is) (ap₂ (λ xs ys. with_logical xs (with_owners ys (model c.self.inside))) c.forget.ensures
    (c.retain.ensures (λ e. not (same_path e.key.path c.args.path.now)) (always_returns_same _ _ _ (λ a r f k. search rules))))
