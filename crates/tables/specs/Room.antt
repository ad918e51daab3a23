-- What a bounded list answers, and becomes, where it may be full.
use Rattle.std.specs.Prelude.{ℕ, cond, List, length, Ok, Err, Result, nat_lt}
use Rattle.tables.specs.declared.full.NoPlace.{NoPlace}

-- The reply and the list where one more entry would make ys of xs: a list of n entries is full, so it refuses, and stays.
abbrev pub fitted : {X : Type 0} → ℕ → List X → List X → Result (Unit {0}) NoPlace × List X
fitted n xs ys = cond (nat_lt (length xs) n) (Ok tt, ys) (Err (record {}), xs)
