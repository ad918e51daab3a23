-- Decimal numbers.
use Rattle.std.specs.Prelude.{ℕ, ◌+◌, ◌-◌, ◌*◌, ◌^◌, Bool, cond, ◌&&◌, List, [], ◌∷◌, Some, None, Option, nat_le, nat_lt}

-- from '0' to '9'
abbrev pub decimal : ℕ → Bool
decimal b = nat_le 48 b && nat_le b 57

-- a number below 2 ^ 64
abbrev pub fitting : ℕ → Option ℕ
fitting n = cond (nat_lt n (2 ^ 64)) (Some n) None

-- the number that n and one digit more write
abbrev pub joined : ℕ → ℕ → Option ℕ
joined n b = cond (decimal b) (fitting (10 * n + (b - 48))) None

-- the number that n and then those digits write
abbrev pub onward : ℕ → List ℕ → Option ℕ
onward n [] = fitting n
onward n (b ∷ bs) = cond (decimal b) (onward (10 * n + (b - 48)) bs) None

-- one digit or more, and nothing else
abbrev pub numeral : List ℕ → Option ℕ
numeral [] = None
numeral (b ∷ bs) = onward 0 (b ∷ bs)
