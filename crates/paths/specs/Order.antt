-- The order of paths: name by name from the outermost on, each by its bytes, and a beginning first.
use Rattle.std.specs.Prelude.{Bool, reverse}
use Rattle.std.specs.declared.cmp.Ordering.{Ordering}
use Rattle.std.specs.Ordering.{nat_cmp, on, is_lt}
use Rattle.std.specs.Cmp.Lexicographic.{slice_cmp}
use Rattle.paths.specs.Names.{Name, Names}

-- Names by their bytes.
abbrev pub order_name : Name → Name → Ordering
order_name = slice_cmp nat_cmp

-- How p stands to q.
abbrev pub order_path : Names → Names → Ordering
order_path = on reverse (slice_cmp order_name)

-- p comes before q.
abbrev pub before_path : Names → Names → Bool
before_path p q = is_lt (order_path p q)
