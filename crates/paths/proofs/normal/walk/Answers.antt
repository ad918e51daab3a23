use Rattle.std.proofs.Common.{◌≡◌, [], sym, refl, ap, ap₂, ◌∙◌, arith}
use Rattle.std.proofs.lemmas.Bool.{and_parts}
use Rattle.paths.specs.Names.{plain}
use Rattle.paths.specs.Texts.{walked, parts_from}
use Rattle.paths.proofs.Renders.{plains, parts_plain, left_start}
use Rattle.paths.proofs.Parts.{spread, spread_parts, part_next, no_part}
use Rattle.paths.proofs.normal.walk.Goals as goal

pub loop-part-init : goal.loop-part-init
loop-part-init c =
    let t : c.into_iter-part-iterator.result.text.now ≡ c.args.text.now = cc in
    let a : c.into_iter-part-iterator.result.at ≡ 0 = cc in
    let e = ap₂ parts_from t a ∙ left_start c.args.text.now in
    let s = ap spread e ∙ spread_parts c.args.text.now [] in
    (ap (walked c.args.wide) e, ap plains e ∙ parts_plain c.args.text.now [] c.requires.zeroless refl, omega (arith, s, c.requires.room, c.requires.short))

pub step-requires : goal.step-requires
step-requires c =
    let p = part_next _ _ _ _ _ c.in-Some.ensures.steps in
    let s = sym (ap plains p) ∙ c.loop-part.invariant.1 in
    let w = ap spread p in
    record { plain = (and_parts (plain c.in-Some.part.name.now) _ s).0; room = omega (arith, w, c.loop-part.invariant.2) }

pub loop-part-preserved : goal.loop-part-preserved
loop-part-preserved c =
    let p = part_next _ _ _ _ _ c.in-Some.ensures.steps in
    let s = sym (ap plains p) ∙ c.loop-part.invariant.1 in
    let w = ap spread p in
    let b = sym (ap (walked c.loop-part.wide) p) ∙ c.loop-part.invariant.0 in (
      ap (λ x. walked x (parts_from c.next.new.self.text.now c.next.new.self.at)) c.step.ensures.after ∙ b,
      (and_parts (plain c.in-Some.part.name.now) _ s).1,
      omega (arith, w, c.loop-part.invariant.2, c.step.ensures.len),
    )

pub returns : goal.returns
returns c =
    let p = no_part _ _ c.in-None.ensures.steps.0 in
    sym (ap (walked c.loop-part.wide) p) ∙ c.loop-part.invariant.0
