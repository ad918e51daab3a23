-- The turns of a walk through a catalogue.
use Rattle.std.proofs.Common.{◌≡◌, ℕ, zero, suc, ◌-◌, ◌<◌, Bool, Some, None, Ok, Err, Option, Result, refl, sym, ap, ◌∙◌, arith}
use Rattle.std.specs.Result.{MatchResult, IsErrAnd}
use Rattle.outside.specs.declared.cause.ScanCause.{ScanCause}
use Rattle.outside.specs.declared.cause.ScanCause.TheVariants.{Number}
use Rattle.paths.specs.Names.{Names}
use Rattle.catalogue.specs.declared.node.Kind.{Kind}
use Rattle.catalogue.specs.declared.way.Stop.{Stop}
use Rattle.catalogue.specs.declared.way.Stop.TheVariants.{Lost, Cause}
use Rattle.catalogue.specs.Nodes.{Nodes}
use Rattle.catalogue.specs.Ways.{Way, Arrival, way, passed, by_way, on_with, arrive}
use Rattle.catalogue.specs.Model.{node_of, way_of, stopped_by}

module _ (last : Bool) (xs : Nodes) where
  -- where the walk comes to from a path that replaces another
  abbrev pub onward : ℕ → Names → Result Arrival ScanCause
  onward zero t = Err (Number 40)
  onward (suc left) t = arrive last xs left t

  pub onward_last : (left : ℕ) (t : Names) → left ≡ 0 → onward left t ≡ Err (Number 40)
  onward_last zero t z = refl
  onward_last (suc left) t z = absurd (omega arith)

  pub onward_more : (left : ℕ) (t : Names) → 0 < left → onward left t ≡ arrive last xs (left - 1) t
  onward_more zero t z = absurd (omega arith)
  onward_more (suc left) t z = ap (λ k. arrive last xs k t) (omega arith)

module _ (last : Bool) (xs : Nodes) (p : Names) where
  -- where the walk comes to by the end of its way, with the path t beside it
  abbrev pub turned : ℕ → Names → Result (Option Kind) ScanCause → Result Arrival ScanCause
  turned left t (Ok (Some k)) = Ok (record { at = p; node = node_of k t })
  turned left t (Ok None) = onward last xs left t
  turned left t (Err c) = Err c

  abbrev by : ℕ → Way → Result Arrival ScanCause
  by zero w = by_way w p (λ q. Err (Number 40))
  by (suc left) w = by_way w p (on_with (arrive last xs left))

  arrive_by : (left : ℕ) → arrive last xs left p ≡ by left (passed last (way xs p))
  unfolding arrive
  arrive_by zero = refl
  arrive_by (suc left) = refl

  by_stop : (left : ℕ) (s : Stop) (t : Names) → by left (way_of (Err s) t) ≡ Err (stopped_by s left)
  by_stop zero Lost t = refl
  by_stop zero (Cause c) t = refl
  by_stop (suc left) Lost t = refl
  by_stop (suc left) (Cause c) t = refl

  by_end : {Q : Stop → ScanCause → Type 0} (left : ℕ) (t : Names) (s : Result (Option Kind) Stop) (r : Result (Option Kind) ScanCause) → ((e : Stop) (c : ScanCause) → Q e c → c ≡ stopped_by e left)
      → MatchResult s (λ o. r ≡ Ok o) (λ e. IsErrAnd r (Q e)) → by left (way_of s t) ≡ turned left t r
  by_end zero t (Ok None) r k m = ap (turned zero t) (sym m)
  by_end zero t (Ok (Some x)) r k m = ap (turned zero t) (sym m)
  by_end (suc left) t (Ok None) r k m = ap (turned (suc left) t) (sym m)
  by_end (suc left) t (Ok (Some x)) r k m = ap (turned (suc left) t) (sym m)
  by_end left t (Err e) (Ok o) k m = absurd m
  by_end left t (Err e) (Err c) k m = by_stop left e t ∙ ap Err (sym (k e c m))

  -- a turn, where the end s of the way is answered as r, which is x
  pub turn : {Q : Stop → ScanCause → Type 0} (left : ℕ) (t : Names) (s : Result (Option Kind) Stop) (r x : Result (Option Kind) ScanCause) → ((e : Stop) (c : ScanCause) → Q e c → c ≡ stopped_by e left)
      → way_of s t ≡ passed last (way xs p) → MatchResult s (λ o. r ≡ Ok o) (λ e. IsErrAnd r (Q e)) → r ≡ x → arrive last xs left p ≡ turned left t x
  turn left t s r x k e m w = arrive_by left ∙ ap (by left) (sym e) ∙ by_end left t s r k m ∙ ap (turned left t) w
