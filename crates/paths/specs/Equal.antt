-- That paths are equal where their names are, and what the equality and the order of paths owe.
use Rattle.std.specs.Prelude.{◌≡◌, true, reverse, refl}
use Rattle.std.specs.Ordering.{eq_by_cmp, as_partial_cmp}
use Rattle.std.specs.Cmp.{IsPartialEquivalence, IsEquivalence, IsTotalOrder, IsPartialOrder, on_total, partial_equiv_from_equiv, partial_order_from_agreeing_total}
use Rattle.std.specs.Cmp.Lexicographic.{pointwise_decides, bytes_decides, nat_list_eq_equiv, nat_list_cmp_total, lists_equiv, lists_total, lists_ties, texts_ties}
use Rattle.std.proofs.Common.{Decides, sym, ap, ◌∙◌}
use Rattle.std.proofs.lemmas.Bool.Decides.{same_from_decides}
use Rattle.std.proofs.lemmas.List.{reverse-reverse}
use Rattle.paths.specs.Names.{Names, same_path}
use Rattle.paths.specs.Order.{order_name, order_path}

pub decides_same_path : (p q : Names) → Decides (same_path p q) (p ≡ q)
decides_same_path = pointwise_decides bytes_decides

pub same_path_true : (p q : Names) → same_path p q ≡ true → p ≡ q
same_path_true p q = (decides_same_path p q).0

pub same_path_same : (p : Names) → same_path p p ≡ true
same_path_same p = (decides_same_path p p).1 refl

-- to turn two lists of names round tells them apart no less
turned_back : (p q : Names) → reverse p ≡ reverse q → p ≡ q
turned_back p q e = sym (reverse-reverse p) ∙ (ap reverse e ∙ reverse-reverse q)

same_turned : (p q : Names) → same_path p q ≡ same_path (reverse p) (reverse q)
same_turned p q =
    let d = decides_same_path (reverse p) (reverse q) in
    same_from_decides (same_path p q) (same_path (reverse p) (reverse q)) (decides_same_path p q)
    ((λ h. turned_back p q (d.0 h)), (λ e. d.1 (ap reverse e)))

pub names_equiv : IsEquivalence same_path
names_equiv = lists_equiv nat_list_eq_equiv

-- what equality of two paths as values owes
pub path_eq_laws : IsPartialEquivalence same_path
path_eq_laws = partial_equiv_from_equiv names_equiv

pub path_total : IsTotalOrder order_path
path_total = on_total reverse (lists_total nat_list_cmp_total)

pub path_ties : (p q : Names) → same_path p q ≡ eq_by_cmp order_path p q
path_ties p q = same_turned p q ∙ lists_ties order_name texts_ties (reverse p) (reverse q)

pub path_partial : IsPartialOrder same_path (as_partial_cmp order_path)
path_partial = partial_order_from_agreeing_total order_path path_total (λ x y. refl) path_ties
