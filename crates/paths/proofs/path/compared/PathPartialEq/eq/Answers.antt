use Rattle.std.proofs.Common.{ap₂, ◌∙◌}
use Rattle.paths.specs.Names.{same_path}
use Rattle.std.proofs.lemmas.Slice.Eq.{slice_eq-Decides}
use Rattle.std.proofs.lemmas.Bool.Decides.{Decides-eqb}
use Rattle.paths.proofs.Sames.{same_rendered}
use Rattle.paths.proofs.path.compared.PathPartialEq.eq.Goals as goal

pub returns : goal.returns
returns c =
    let a = c.bytes.ensures in
    let b = c.bytes-2.ensures in
    same_rendered c.self.inside.spelled c.other.inside.spelled c.bytes.result.now c.bytes-2.result.now c.eq.result a.good b.good a.value b.value (slice_eq-Decides Decides-eqb _ _ _ c.eq.ensures) ∙ ap₂ same_path c.self.view_is c.other.view_is
