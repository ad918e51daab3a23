-- What the rules on paths come to.
use Rattle.std.specs.Prelude.{◌≡◌, true, Ok}
use Rattle.std.specs.declared.cmp.Ordering.TheVariants.{Less, Equal}
use Rattle.std.specs.declared.cmp.Ordering.{Ordering}
use Rattle.std.specs.Ordering.{ordering_reverse, is_le}
use Rattle.paths.specs.Names.{Names, Text, text, good, within, starts_with}
use Rattle.paths.specs.Order.{order_path}
use Rattle.paths.specs.Texts.{normalised, zeroless, read}

-- A normal form has nothing but names, and to normalise its text again, below any directory, changes nothing.
abbrev pub NormalForm : Type 0
NormalForm =
    (cwd : Names) (t : Text) → good cwd ≡ true → zeroless t ≡ true →
    (good (normalised cwd t) ≡ true) × ((below : Names) → normalised below (text (normalised cwd t)) ≡ normalised cwd t)

-- The text of a path within the limits, read below any directory, is that path.
abbrev pub ReadsBack : Type 0
ReadsBack = (p below : Names) → good p ≡ true → within p ≡ true → read below (text p) ≡ Ok p

-- To be a path or lie below it is a partial order.
pub record PartialOrder : Type 0 where
  pub reflexive : (p : Names) → starts_with p p ≡ true
  pub transitive : (p q r : Names) → starts_with p q ≡ true → starts_with q r ≡ true → starts_with p r ≡ true
  pub antisymmetric : (p q : Names) → starts_with p q ≡ true → starts_with q p ≡ true → p ≡ q

-- A way to order things that is total: two are equal, or one of them is less.
pub record TotalOrder {X : Type 0} (order : X → X → Ordering) : Type 0 where
  pub same : (x : X) → order x x ≡ Equal
  pub equal : (x y : X) → order x y ≡ Equal → x ≡ y
  pub turned : (x y : X) → order y x ≡ ordering_reverse (order x y)
  pub transitive : (x y z : X) → order x y ≡ Less → order y z ≡ Less → order x z ≡ Less

-- A path comes no later than what lies below it.
abbrev pub AboveFirst : Type 0
AboveFirst = (p q : Names) → starts_with q p ≡ true → is_le (order_path p q) ≡ true
