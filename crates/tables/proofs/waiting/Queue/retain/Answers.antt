use Rattle.std.proofs.Common.{◌∙◌, ap}
use Rattle.std.specs.List.{filter}
use Rattle.std.proofs.lemmas.Fn.{filter_same}
use Rattle.tables.proofs.Calls.{told}
use Rattle.tables.proofs.waiting.Queue.retain.Goals as goal

pub returns : goal.returns
returns g c test h =
    filter_same _ test _ (λ x b q k. let t = told g.F.Fn g.met.F.Fn.1 c.args.keep test h k.shown b q k.called.met in (t.1 ∙ ap test k.shows, t.0)) _ _ c.retain.ensures.filtered ∙ ap (filter test) c.self.view_is
