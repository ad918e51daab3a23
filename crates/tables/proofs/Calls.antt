-- What a call of a test leaves and answers.
use Rattle.std.proofs.Common.{◌≡◌, [], ◌∷◌}
use Rattle.std.specs.Fn.{ComputesKey}
use denote.Ref.{Bor}
use denote.Param.Members.{Shared, Called, FnLaws, MutLaws, post_stays}

pub told : {F X R : Type 0} (g : Shared F (Bor X × Unit {0}) R) → FnLaws g → (f : F) (test : X → R) → ComputesKey g test f
    → (x : Bor X) (b : R) (q : F) → g.steps f (x, tt) b q → (q ≡ f) × (b ≡ test x.now)
told g s f test h x b q k =
    let c : Called g f (x, tt) b q = record { met = k } in
    (s.step_stays f (x, tt) b q c, (h.at ((x, tt) ∷ []) b q c).0)

pub spoken : {F X R : Type 0} (g : Shared F (Bor X × Unit {0}) R) → MutLaws g → FnLaws g → (f : F) (test : X → R) → ComputesKey g test f
    → (x : Bor X) (b : R) → g.post f (x, tt) b → b ≡ test x.now
spoken g m s f test h x b p = (h.at ((x, tt) ∷ []) b f (post_stays g f (x, tt) b m s p)).0
