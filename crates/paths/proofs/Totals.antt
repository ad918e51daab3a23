-- Paths are in a total order.
use Rattle.std.proofs.Common.{◌≡◌, true, List, [], ◌∷◌, ◌++◌, reverse, refl, ap, ◌∙◌}
use Rattle.std.proofs.lemmas.List.{reverse-append}
use Rattle.std.specs.Ordering.{ordering_then, is_le, is_eq}
use Rattle.std.specs.Cmp.{tied_itself}
use Rattle.std.specs.Cmp.Lexicographic.{slice_cmp, nat_list_cmp_total}
use Rattle.paths.specs.Names.{Name}
use Rattle.paths.specs.Order.{order_name, order_path}
use Rattle.paths.specs.Laws.{TotalOrder, AboveFirst}
use Rattle.paths.specs.Equal.{same_path_true, path_total, path_ties}
use Rattle.paths.proofs.Below.{below_parts}

pub total_path : TotalOrder order_path
total_path = record {
  same = tied_itself path_total;
  equal = λ p q e. same_path_true p q (path_ties p q ∙ ap is_eq e);
  turned = λ p q. path_total.antisymm q p;
  transitive = path_total.trans;
}

-- a beginning comes no later than the whole
beginning : (p q : List Name) → is_le (slice_cmp order_name p (p ++ q)) ≡ true
beginning [] [] = refl
beginning [] (m ∷ q) = refl
beginning (n ∷ p) q = ap (λ o. is_le (ordering_then o (slice_cmp order_name p (p ++ q)))) (tied_itself nat_list_cmp_total n) ∙ beginning p q

pub above_first : AboveFirst
above_first p q h =
    let b = below_parts q p h in
    ap (λ x. is_le (slice_cmp order_name (reverse p) x)) (ap reverse b.1 ∙ reverse-append b.0 p) ∙ beginning (reverse p) (reverse b.0)
