use Rattle.std.proofs.Common.{is_some, sym, ◌∙◌, rules, tests}
use Rattle.std.proofs.lemmas.Iterator.Search.{all_from_yields_List}
use Rattle.std.proofs.lemmas.Iterator.Consumers.{YieldsList-from_first}
use Rattle.scenario.specs.Escapes.{chars}
use Rattle.scenario.proofs.Chars.{readable}
use Rattle.scenario.proofs.reading.is_text.Goals as goal

pub returns : goal.returns
returns c =
    let w = c.args.word.now in
    all_from_yields_List is_some c.all.new.self _ c.all.result c.all.ensures.ran (YieldsList-from_first (λ x. x) (λ s. chars s.0.now) (chars w) cc) (λ x b q k. search (rules, tests)) ∙ sym (readable w)
