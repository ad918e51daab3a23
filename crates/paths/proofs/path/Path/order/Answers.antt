use Rattle.std.proofs.Common.{ap₂, ◌∙◌}
use Rattle.paths.specs.Bytes.{keyed}
use Rattle.paths.specs.Order.{order_path}
use Rattle.paths.proofs.Orders.{keyed_render}
use Rattle.paths.proofs.Totals.{total_path, above_first}
use Rattle.paths.proofs.path.Path.order.Goals as goal

pub returns-clause-value : goal.returns-clause-value
returns-clause-value c =
    let a = c.bytes.ensures in
    let b = c.bytes-2.ensures in
    c.order.ensures ∙ (ap₂ keyed a.value b.value ∙ keyed_render c.self.inside.spelled c.other.inside.spelled a.good b.good ∙ ap₂ order_path c.self.view_is c.other.view_is)

pub returns-clause-laws : goal.returns-clause-laws
returns-clause-laws c = total_path

pub returns-clause-first : goal.returns-clause-first
returns-clause-first c = above_first
