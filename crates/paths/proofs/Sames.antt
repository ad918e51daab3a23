-- Paths are equal where their texts are.
use Rattle.std.proofs.Common.{◌≡◌, ℕ, Bool, true, List, Decides, ap}
use Rattle.std.proofs.lemmas.Bool.Decides.{same_from_decides}
use Rattle.paths.specs.Names.{Names, same_path, render, good}
use Rattle.paths.specs.Bytes.{parse}
use Rattle.paths.proofs.Renders.{parse_render}
use Rattle.paths.specs.Equal.{decides_same_path}

pub same_rendered : (p q : Names) (t u : List ℕ) (r : Bool) → good p ≡ true → good q ≡ true → t ≡ render p → u ≡ render q → Decides r (t ≡ u) → r ≡ same_path p q
same_rendered p q t u r g h e f d =
    let a = parse_render p g in
    let b = parse_render q h in
    same_from_decides r (same_path p q)
    ((λ k. let x = d.0 k in let y : render p ≡ render q = cc in let z = ap parse y in cc), (λ k. d.1 (let y = ap render k in cc)))
    (decides_same_path p q)
