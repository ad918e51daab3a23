use Rattle.std.proofs.Common.{not, ap, ◌∙◌, rules}
use Rattle.std.proofs.lemmas.Fn.{always_returns_same}
use Rattle.paths.specs.Names.{starts_with}
use borrow.Author.Tests.{tests}
use Rattle.catalogue.specs.Nodes.{struck}
use Rattle.catalogue.proofs.tree.Catalogue.strike.Goals as goal

pub returns : goal.returns
returns c =
    c.retain.ensures (λ e. not (starts_with e.key c.args.path.now)) (always_returns_same _ _ _ (λ a r s k. search (rules, tests)))
    ∙ ap (struck c.args.path.now) c.self.view_is
