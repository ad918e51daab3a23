use Rattle.std.proofs.Common.{◌≡◌, ℕ, ◌<◌, ◌≤◌, Bool, not, ltb, List, [], ◌∷◌, length, cond, Some, None, Option, unwrap_or, IfSome, refl, ap, ◌∙◌, inl, inr, rules, arith}
use Rattle.std.specs.List.{prefix_len}
use Rattle.std.proofs.lemmas.Bool.{cases_Bool, cases_lt, lt-ltb, le-ltb}
use Rattle.std.proofs.lemmas.Iterator.{YieldsList-from_slice}
use Rattle.std.proofs.lemmas.Iterator.Search.{position_from_yields_List}
use Rattle.tables.proofs.Calls.{spoken}
use Rattle.tables.proofs.Sought.{prefix_within}
use Rattle.tables.proofs.search.leading.Goals as goal

end_within : (o : Option ℕ) (m n : ℕ) → m ≡ n → IfSome o (λ i. i < m) → unwrap_or o n ≤ n
end_within None m n q e = omega arith
end_within (Some i) m n q e = omega (arith, q, e)

end_is : (p n : ℕ) → p ≤ n → unwrap_or (cond (ltb p n) (Some p) None) n ≡ p
end_is p n h = elim (cases_lt p n) [ inl l ↦ rw (lt-ltb p n l) refl | inr g ↦ rw (le-ltb p n g) (omega arith) ]

twice : {X : Type 0} (t : X → Bool) (xs : List X) → prefix_len (λ x. not (not (t x))) xs ≡ prefix_len t xs
twice t [] = refl
twice t (x ∷ xs) = let b = cases_Bool (t x) in let i = twice t xs in grind arith

pub returns : goal.returns
returns g c = record {
  value = λ test h.
      let s = spoken g.F.Fn g.met.F.FnMut.1 g.met.F.Fn.1 c.args.passes test h in
      let p = position_from_yields_List (λ x. not (test x)) _ _ c.position-end.result c.position-end.ensures.ran (YieldsList-from_slice c.args.items.now c.iter.ensures.rest) (λ x b q k. search (rules, s)) in
      c.unwrap_or.ensures ∙ (ap (λ o. unwrap_or o (length c.args.items.now)) p ∙ (end_is _ _ (prefix_within (λ x. not (not (test x))) c.args.items.now) ∙ twice test c.args.items.now));
  within = rw c.unwrap_or.ensures (end_within _ _ _ (ap length c.iter.ensures.rest) c.position-end.ensures.bound);
}
