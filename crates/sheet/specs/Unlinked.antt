-- With following on, no row says that a path is a link.
use Rattle.std.specs.Prelude.{◌≡◌, ℕ, Bool, true, not, List, [], ◌∷◌, Ok, ◌≢◌}
use Rattle.std.proofs.Common.{ap, inl, inr, arith}
use Rattle.std.proofs.lemmas.Bool.{cases_Bool}
use Rattle.paths.specs.Names.{Names}
use Rattle.paths.specs.Order.{order_path}
use Rattle.tables.specs.declared.entry.Entry.{Entry}
use Rattle.tables.specs.Entries.{held, under}
use Rattle.tables.specs.Lists.{every}
use Rattle.outside.specs.Answers.{Classified, symlink}
use Rattle.sheet.specs.Classes.{is_link}
use Rattle.sheet.specs.Rows.{said}

abbrev pub unlinked : List (Entry Names Classified) → Bool
unlinked xs = every (λ e. not (is_link e.value)) xs

pub no_link : (p : Names) (xs : List (Entry Names Classified)) → unlinked xs ≡ true → said (held order_path p xs) ≢ Ok symlink
no_link p [] u e = let z : ◌≡◌ {A = ℕ} 0 1 = cc in omega arith
no_link p (x ∷ xs) u e =
    let l = cases_Bool (is_link x.value) in
    elim (cases_Bool (under order_path p x)) [
      | inl t ↦ (let s : x.value ≡ Ok symlink = grind arith in let l = ap is_link s in let z : ◌≡◌ {A = ℕ} 0 1 = grind arith in omega arith)
      | inr t ↦ no_link p xs (grind arith) (grind arith)
    ]
