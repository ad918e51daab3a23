use Rattle.std.proofs.Common.{Result, Ok, is_some, option_map, sym, ap, ◌∙◌, rules}
use Rattle.std.proofs.lemmas.Option.{slice_get-map}
use Rattle.std.proofs.lemmas.Iterator.{YieldsList-from_slice}
use Rattle.std.proofs.lemmas.Iterator.Consumers.{nth_from_yields_List, YieldsList-from_filter, YieldsList-at}
use Rattle.outside.specs.declared.cause.ScanCause.{ScanCause}
use Rattle.paths.specs.Names.{Name}
use Rattle.catalogue.specs.Nodes.{child_name, children}
use Rattle.catalogue.proofs.Children.{of_found, by_node}
use Rattle.catalogue.proofs.tree.Catalogue.child.Goals as goal

pub returns-in_err-node : goal.returns-in_err-node
returns-in_err-node c =
    let found = nth_from_yields_List c.nth.result _ c.args.number c.nth.ensures.ran
    (YieldsList-from_filter _ (λ e. is_some (child_name e.key c.args.directory.now)) (YieldsList-at c.filter.ensures.source (YieldsList-from_slice c.args.self.now (cc))) c.filter.ensures.closure (λ x b q k. search rules)) in
    let by = by_node (λ e. child_name e.key c.args.directory.now) c.args.self.now c.args.number in
    let wrap : Name → Result Name ScanCause = λ x. Ok x in
    let moved = slice_get-map wrap (children c.args.directory.now c.args.self.now) c.args.number in
    c.from_residual.ensures
    ∙ sym (moved ∙ ap (option_map wrap) (by ∙ ap (of_found (λ e. child_name e.key c.args.directory.now)) (sym found ∙ ap (option_map (λ y. y.now)) c.in_err-node.was)))

pub returns : goal.returns
returns c =
    let found = nth_from_yields_List c.nth.result _ c.args.number c.nth.ensures.ran
    (YieldsList-from_filter _ (λ e. is_some (child_name e.key c.args.directory.now)) (YieldsList-at c.filter.ensures.source (YieldsList-from_slice c.args.self.now (cc))) c.filter.ensures.closure (λ x b q k. search rules)) in
    let by = by_node (λ e. child_name e.key c.args.directory.now) c.args.self.now c.args.number in
    let wrap : Name → Result Name ScanCause = λ x. Ok x in
    let moved = slice_get-map wrap (children c.args.directory.now c.args.self.now) c.args.number in
    sym (moved ∙ ap (option_map wrap) (by ∙ (ap (of_found (λ e. child_name e.key c.args.directory.now)) (sym found ∙ ap (option_map (λ y. y.now)) c.in_ok-node.was) ∙ (sym c.child_name.ensures ∙ c.in_ok-name.was))))
