-- What a path settles, and what it leaves to what stands above it.
use Rattle.std.proofs.Common.{◌≡◌, ◌≢◌, Bool, true, cond, [], ◌∷◌, Ok, Err, sym, refl, ap, ◌∙◌}
use Rattle.paths.specs.Names.{Names, same_path}
use Rattle.outside.specs.declared.cause.ScanCause.TheVariants.{NotFound, Number}
use Rattle.outside.specs.Answers.{directory, symlink, other, Classified, Verdict}
use Rattle.rules.specs.Looking.{Place, nowhere, found, blocked, ascend_by, ascend, guard_place, allowed, refused, permitted, candidate_allowed}

-- what was found, or else what lies further up
abbrev pub or_else : Place → Place → Place
or_else further nowhere = further
or_else further (found p c) = found p c
or_else further (blocked p c) = blocked p c

by_or_else : (p : Names) (further : Place) (x : Classified) → ascend_by p further x ≡ or_else further (ascend_by p nowhere x)
by_or_else p further (Ok (directory c)) = refl
by_or_else p further (Ok symlink) = refl
by_or_else p further (Ok other) = refl
by_or_else p further (Err NotFound) = refl
by_or_else p further (Err (Number n)) = refl

-- nothing found at p itself leaves what guards p from above
pub ascend_from : (look : Names → Bool → Classified) (p : Names) (here : Place) → here ≡ ascend_by p nowhere (look p true) → ascend look p ≡ or_else (guard_place look true p) here
unfolding ascend guard_place
ascend_from look [] here e = by_or_else [] nowhere (look [] true) ∙ ap (or_else nowhere) (sym e)
ascend_from look (n ∷ p) here e = by_or_else (n ∷ p) (ascend look p) (look (n ∷ p) true) ∙ ap (or_else (ascend look p)) (sym e)

kept : (further here : Place) → here ≢ nowhere → or_else further here ≡ here
kept further nowhere h = absurd (h refl)
kept further (found p c) h = refl
kept further (blocked p c) h = refl

-- a directory or a cause ends the way up
pub ascend_settled : (look : Names → Bool → Classified) (p : Names) (here : Place) → here ≡ ascend_by p nowhere (look p true) → here ≢ nowhere → ascend look p ≡ here
ascend_settled look p here e h = ascend_from look p here e ∙ kept (guard_place look true p) here h

-- the root is allowed
pub allowed_same : (verdict : Names → Verdict) (root p : Names) → true ≡ same_path p root → candidate_allowed verdict root p ≡ allowed
unfolding candidate_allowed
allowed_same verdict root [] s = ap (λ b. cond b allowed refused) (sym s)
allowed_same verdict root (n ∷ p) s = ap (λ b. cond b allowed (permitted verdict (n ∷ p) (candidate_allowed verdict root p))) (sym s)
