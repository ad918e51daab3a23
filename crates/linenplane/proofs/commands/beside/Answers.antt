use Rattle.std.proofs.Common.{◌≡◌, ◌∙◌, ap, ℕ, true, false, cond, List, [], ◌∷◌, map, Some, option_map, Bor, refl, rules, tests}
use Rattle.std.proofs.lemmas.Iterator.{YieldsList-from_slice}
use Rattle.std.proofs.lemmas.Iterator.Search.{find_from_yields_List}
use Rattle.std.specs.List.{find}
use Rattle.std.specs.Str.{bytes_eq}
use Rattle.linenplane.specs.Commands.{beside}
use Rattle.linenplane.specs.declared.commands.Command.{Command}
use Rattle.linenplane.proofs.WordKinds.{kind_by_kind}
use Rattle.linenplane.proofs.commands.beside.Goals as goal

abbrev Row : Type 0
Row = Bor (List ℕ) × Command

-- the second half of the row that is found
first : (w : List ℕ) (t : List Row) → option_map (λ (r : Row). r.1) (find (λ r. bytes_eq w r.0.now) t) ≡ beside w (map (λ r. (r.0.now, r.1)) t)
first w [] = refl
first w (r ∷ rs) = elim (bytes_eq w r.0.now) as (λ b. option_map (λ (x : Row). x.1) (cond b (Some r) (find (λ x. bytes_eq w x.0.now) rs)) ≡ cond b (Some r.1) (beside w (map (λ x. (x.0.now, x.1)) rs))) [ true ↦ refl | false ↦ first w rs ]

pub returns : goal.returns
returns c =
    let found = find_from_yields_List (λ (r : Row). bytes_eq c.args.word.now r.0.now) _ _ c.find.result c.find.ensures.ran (YieldsList-from_slice c.args.table.now cc) (λ x b q k. search (rules, tests)) in
    let half : c.map.result ≡ option_map (λ (r : Row). r.1) (option_map (λ (y : Bor Row). y.now) c.find.result) = search (rules, tests) in
    record {
      value = half ∙ ap (option_map (λ (r : Row). r.1)) found ∙ first c.args.word.now c.args.table.now;
      kinds = kind_by_kind;
    }
