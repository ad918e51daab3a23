use Rattle.std.proofs.Common.{Ok, Err, sym, ap, ◌∙◌, arith, rules}
use Rattle.std.proofs.lemmas.Result.{err_from_is_err_and}
use Rattle.catalogue.specs.Model.{replied, come_to}
use Rattle.catalogue.specs.Targets.{kind_back}
use Rattle.catalogue.proofs.Turns.{turn, onward_last, onward_more}
use Rattle.catalogue.proofs.tree.Catalogue.arrive.Goals as goal

pub returns-in_err-kind : goal.returns-in_err-kind
returns-in_err-kind c =
    let e = sym c.loop-left.invariant ∙ turn _ _ _ _ c.pass-passed.new.place c.pass-passed.result _ _ (λ s d q. search rules) c.pass-passed.ensures c.map_err.ensures.cases c.in_err-kind.was in
    let p = err_from_is_err_and c.from_residual.result c.from_residual.ensures.1 in
    record { value = p.1 ∙ (ap Err p.2 ∙ sym (ap replied e)); after = sym (ap (λ a. come_to a c.loop-left.place) e) }

pub returns-in-Some : goal.returns-in-Some
returns-in-Some c =
    let e = sym c.loop-left.invariant ∙ turn _ _ _ _ c.pass-passed.new.place c.pass-passed.result _ _ (λ s d q. search rules) c.pass-passed.ensures c.map_err.ensures.cases (c.in_ok-kind.was ∙ ap Ok c.in-Some.is) in
    record { value = sym (ap replied e ∙ ap Ok (kind_back c.in-Some.kind c.pass-passed.new.place)); after = sym (ap (λ a. come_to a c.loop-left.place) e) }

pub loop-left-preserved : goal.loop-left-preserved
loop-left-preserved c =
    let e = sym c.loop-left.invariant ∙ turn _ _ _ _ c.pass-passed.new.place c.pass-passed.result _ _ (λ s d q. search rules) c.pass-passed.ensures c.map_err.ensures.cases (c.in_ok-kind.was ∙ ap Ok c.in_default.is) in
    sym (e ∙ onward_more _ _ c.loop-left.left-counter _ (omega arith))

pub returns-in_default : goal.returns-in_default
returns-in_default c =
    let e = sym c.loop-left.invariant ∙ turn _ _ _ _ c.pass-passed.new.place c.pass-passed.result _ _ (λ s d q. search rules) c.pass-passed.ensures c.map_err.ensures.cases (c.in_ok-kind.was ∙ ap Ok c.in_default.is) in
    let z = e ∙ onward_last _ _ c.loop-left.left-counter _ (omega arith) in
    record { value = sym (ap replied z); after = sym (ap (λ a. come_to a c.pass-passed.new.place) z) }
