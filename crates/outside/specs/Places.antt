-- How a path and a flag hold a path or none.
use Rattle.std.specs.Prelude.{◌≡◌, Bool, true, false, [], Some, None, Option, refl}
use Rattle.std.proofs.Common.{sym}
use Rattle.paths.specs.Names.{Names}

-- The path, where it stands.
abbrev pub seen : Names → Bool → Option Names
seen p true = Some p
seen p false = None

-- Where none stands, the path is "/".
abbrev pub tidy : Names → Bool → Type 0
tidy p stands = stands ≡ false → p ≡ []

-- The path and the flag for a path or none.
abbrev pub kept : Option Names → Names
kept None = []
kept (Some p) = p

abbrev pub stood : Option Names → Bool
stood None = false
stood (Some p) = true

pub kept_seen : (p : Names) (stands : Bool) → tidy p stands → kept (seen p stands) ≡ p
kept_seen p true h = refl
kept_seen p false h = sym (h refl)

pub stood_seen : (p : Names) (stands : Bool) → stood (seen p stands) ≡ stands
stood_seen p true = refl
stood_seen p false = refl
