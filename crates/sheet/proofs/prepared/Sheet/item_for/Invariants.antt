use Rattle.std.proofs.Common.{◌≡◌, drop}
use Rattle.std.specs.List.{slice_get}
use Rattle.sheet.specs.Rows.{items_for}
use Rattle.sheet.specs.Model.{rows}
use Rattle.sheet.proofs.prepared.Sheet.item_for.Given as goal

abbrev pub invariant-loop-row : goal.invariant-loop-row
invariant-loop-row l = slice_get (items_for l.path (drop l.row-index l.self.items)) l.left ≡ slice_get (items_for l.path (rows l.self).items) l.number
