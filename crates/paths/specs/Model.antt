-- What the values of the code stand for.
use Rattle.std.specs.Prelude.{ℕ, Ok, Err, Result}
use Rattle.paths.specs.Names.{Names}
use Rattle.paths.specs.declared.refusal.Refusal.{Refusal}
use Rattle.paths.specs.declared.refusal.Refusal.TheVariants.{TextLong, ZeroByte, TooDeep}

-- Each refusal's number.
abbrev pub number : Refusal → ℕ
number TextLong = 1
number ZeroByte = 2
number TooDeep = 4

-- A reply with the number in place of the refusal.
abbrev pub numbered : {X : Type 0} → Result X Refusal → Result X ℕ
numbered (Ok x) = Ok x
numbered (Err e) = Err (number e)

-- The reply to a reading, whose path stands in the place that the caller lent.
abbrev pub replied : Result Names ℕ → Result (Unit {0}) ℕ
replied (Ok p) = Ok tt
replied (Err e) = Err e

-- What that place holds then: the path that was read, or what it held.
abbrev pub placed : Result Names ℕ → Names → Names
placed (Ok p) old = p
placed (Err e) old = old
