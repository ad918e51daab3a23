use Rattle.std.proofs.Common.{◌≡◌, ◌+◌, ◌<◌, length, get_or, drop, sym, ap, ◌∙◌, arith}
use Rattle.std.proofs.lemmas.List.{at_drop_all}
use Rattle.sheet.proofs.Turns.{item_in, turn_other, turn_found, turn_passed}
use Rattle.sheet.proofs.prepared.Sheet.item_for.Goals as goal
use Rattle.sheet.proofs.prepared.Sheet.item_for.Goals.{then-eq+else-left-eq0, else-eq}

pub returns-then-left-eq0 : goal.returns-then-left-eq0
returns-then-left-eq0 c =
    let s = c.entries-row-items.ensures.value in
    let lt : c.loop-row.row-index < length c.args.self.now.items = omega (arith, ap length s, c.loop-row-test.true) in
    let is : c.row-item.result ≡ get_or c.args.self.now.items c.loop-row.row-index c.row-item.result = c.row-item.is ∙ ap (λ ys. get_or ys c.loop-row.row-index c.row-item.result) s in
    sym (turn_found c.args.path.now c.args.self.now.items c.loop-row.row-index c.row-item.result lt is c.loop-row.left c.if-left-eq0.true c.if-eq.ensures) ∙ c.loop-row.invariant

pub loop-row-preserved : goal.loop-row-preserved
loop-row-preserved c =
    let s = c.entries-row-items.ensures.value in
    let lt : c.loop-row.row-index < length c.args.self.now.items = omega (arith, ap length s, c.loop-row-test.true) in
    let is : c.row-item.result ≡ get_or c.args.self.now.items c.loop-row.row-index c.row-item.result = c.row-item.is ∙ ap (λ ys. get_or ys c.loop-row.row-index c.row-item.result) s in
    elim c.if-eq.branch [
      | then-eq+else-left-eq0 w ↦
          ap (item_in c.args.path.now (drop (c.loop-row.row-index + 1) c.args.self.now.items)) w.left-is
          ∙ (sym (turn_passed c.args.path.now c.args.self.now.items c.loop-row.row-index c.row-item.result lt is c.loop-row.left (omega (arith, w.if-left-eq0.false)) w.if-eq.ensures) ∙ c.loop-row.invariant)
      | else-eq w ↦
          ap (item_in c.args.path.now (drop (c.loop-row.row-index + 1) c.args.self.now.items)) w.left-is
          ∙ (sym (turn_other c.args.path.now c.args.self.now.items c.loop-row.row-index c.row-item.result lt is c.loop-row.left w.if-eq.ensures) ∙ c.loop-row.invariant)
    ]

pub returns : goal.returns
returns c =
    let s = c.entries-row-items.ensures.value in
    sym (at_drop_all (λ ys. item_in c.args.path.now ys c.loop-row.left) c.args.self.now.items c.loop-row.row-index (omega (arith, ap length s, c.loop-row-test.false))) ∙ c.loop-row.invariant
