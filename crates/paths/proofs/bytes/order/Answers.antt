use Rattle.std.proofs.Common.{◌≡◌, ℕ, min, List, length, drop, sym, ◌∙◌, arith}
use Rattle.std.proofs.lemmas.Bool.Decides.{nat_tests}
use Rattle.std.proofs.lemmas.List.{drop_all, drop_more}
use Rattle.std.proofs.lemmas.Slice.Zip.{zip_end}
use Rattle.std.specs.Ordering.{nat_cmp}
use Rattle.paths.specs.Bytes.{keyed}
use Rattle.paths.proofs.bytes.order.Goals as goal

-- Where the shorter text ends, the lengths say which comes first.
keyed_end : (t u : List ℕ) (k : ℕ) → k ≡ min (length t) (length u) → keyed (drop k t) (drop k u) ≡ nat_cmp (length t) (length u)
keyed_end t u k e = grind (arith, nat_tests, drop_all k t, drop_all k u, drop_more t k 0, drop_more u k 0)

pub returns : goal.returns
returns c =
    let e : length c.loop-a.yielded ≡ min (length c.args.t.now) (length c.args.u.now) = zip_end c.args.t.now c.args.u.now c.loop-a.yielded c.into_iter-a-iterator.result c.loop-a.a-iterator c.next.new.self _ (cc) (cc) c.loop-a.yielded_by c.in-None.is c.next.ensures.steps in
    c.cmp-2.ensures ∙ (sym (keyed_end c.args.t.now c.args.u.now (length c.loop-a.yielded) e) ∙ c.loop-a.invariant)
