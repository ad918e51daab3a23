use Rattle.std.proofs.Common.{◌+◌, sym, refl, ap, ◌∙◌, rules}
use Rattle.std.proofs.lemmas.Iterator.{YieldsList-from_slice}
use Rattle.std.proofs.lemmas.Iterator.Search.{position_from_yields_List}
use Rattle.std.proofs.lemmas.List.{take_rest}
use borrow.Author.Tests.{tests}
use Rattle.paths.specs.Texts.{first_part, behind_part, other_parts}
use Rattle.paths.proofs.Parts.{is_slash, part_at}
use Rattle.paths.proofs.cursor.Cursor.next_part.Goals as goal

pub returns : goal.returns
returns c =
    let r = position_from_yields_List is_slash _ _ c.position.result c.position.ensures.ran (YieldsList-from_slice c.in_ok-rest.rest.now (cc)) (λ x b q k. search (rules, tests)) in
    let l = c.in_ok-rest.ensures.lookup.0 in
    let p = part_at c.args.self.now.text.now c.in_ok-rest.rest.now c.args.self.now.at c.unwrap_or-len.result c.position.result l.0 (l.2 ∙ take_rest c.args.self.now.text.now c.args.self.now.at) r c.unwrap_or-len.ensures in
    record {
      same = refl;
      value = sym (ap (λ x. first_part x c.args.self.now.at) p.0);
      after = sym (ap (λ x. behind_part x c.args.self.now.at) p.0 ∙ ap (λ k. c.args.self.now.at + k + 1) p.1);
      rest = sym (ap other_parts p.0);
    }
