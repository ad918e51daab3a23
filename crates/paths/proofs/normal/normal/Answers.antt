use Rattle.std.proofs.Common.{◌≡◌, [], ◌∷◌, Some, sym, ap, ◌∙◌}
use Rattle.std.proofs.lemmas.Slice.Eq.{strip_prefix_is}
use Rattle.std.proofs.lemmas.Bool.Decides.{Decides-eqb}
use Rattle.paths.specs.Texts.{zeroless}
use Rattle.paths.proofs.normal.normal.Goals as goal

pub walk-requires-clause-zeroless : goal.walk-requires-clause-zeroless
walk-requires-clause-zeroless c =
    let t : c.args.text.now ≡ 47 ∷ c.in-Some.rest.now = strip_prefix_is Decides-eqb c.args.text.now (47 ∷ []) (Some c.in-Some.rest) c.in-Some.ensures.cases in
    ap zeroless (sym t) ∙ c.requires.zeroless
