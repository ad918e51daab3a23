use Rattle.std.proofs.Common.{Some, None, ap₂, ◌∙◌}
use Rattle.std.proofs.lemmas.Slice.Eq.{strip_prefix_is}
use Rattle.std.proofs.lemmas.Bool.Decides.{Decides-eqb}
use Rattle.paths.specs.Names.{starts_with}
use Rattle.paths.proofs.Below.{partial_order, text_ends, text_opens, starts_by_text, starts_other}
use Rattle.paths.proofs.path.Path.starts_with.Goals as goal

pub returns-in_default : goal.returns-in_default
returns-in_default c =
    let s = strip_prefix_is Decides-eqb c.bytes.result.now c.bytes-2.result.now None c.in_default.ensures.cases in
    record { value = starts_other c.self.inside.spelled c.top.inside.spelled c.bytes.result.now c.bytes-2.result.now c.bytes.ensures.value c.bytes-2.ensures.value s ∙ ap₂ starts_with c.self.view_is c.top.view_is; laws = partial_order }

pub returns-then-is_empty : goal.returns-then-is_empty
returns-then-is_empty c =
    let s = strip_prefix_is Decides-eqb c.bytes.result.now c.bytes-2.result.now (Some c.in-Some.rest) c.in-Some.ensures.cases in
    let v = starts_by_text c.self.inside.spelled c.top.inside.spelled c.bytes.result.now c.bytes-2.result.now c.in-Some.rest.now c.is_empty.result c.bytes.ensures.good c.bytes-2.ensures.good c.bytes.ensures.value c.bytes-2.ensures.value s (text_ends c.in-Some.rest.now c.is_empty.result c.if-is_empty.ensures c.if-is_empty.true) in
    record { value = v ∙ ap₂ starts_with c.self.view_is c.top.view_is; laws = partial_order }

pub returns-else-is_empty : goal.returns-else-is_empty
returns-else-is_empty c =
    let s = strip_prefix_is Decides-eqb c.bytes.result.now c.bytes-2.result.now (Some c.in-Some.rest) c.in-Some.ensures.cases in
    let v = starts_by_text c.self.inside.spelled c.top.inside.spelled c.bytes.result.now c.bytes-2.result.now c.in-Some.rest.now _ c.bytes.ensures.good c.bytes-2.ensures.good c.bytes.ensures.value c.bytes-2.ensures.value s (text_opens c.in-Some.rest.now c.if-is_empty.ensures) in
    record { value = v ∙ ap₂ starts_with c.self.view_is c.top.view_is; laws = partial_order }
