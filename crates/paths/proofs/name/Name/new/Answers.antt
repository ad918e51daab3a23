use Rattle.std.proofs.Common.{◌≡◌, length, take, refl, sym, ap, ◌∙◌, arith}
use Rattle.std.proofs.lemmas.List.{take_at}
use Rattle.std.proofs.lemmas.Bool.Decides.{nat_tests}
use Rattle.paths.specs.Names.{named}
use Rattle.paths.proofs.Renders.{filled_is}
use Rattle.paths.proofs.name.Name.new.Goals as goal

pub invariant_of-result : goal.invariant_of-result
invariant_of-result c =
    let t : take (length c.args.bytes.now) c.copy.new.to ≡ c.args.bytes.now = ap (take (length c.args.bytes.now)) c.copy.ensures ∙ take_at c.args.bytes.now _ (length c.args.bytes.now) refl in
    let a = c.if-not-is_plain.ensures in
    let b = c.if-is_dots.ensures in
    (c.copy.ensures ∙ filled_is 255 c.args.bytes.now _ t, sym (ap length t), c.if-bytes-gt255.false, ap named t ∙ (grind (arith, nat_tests)))
