-- Why a call is refused: each case with its number and its values.
use Rattle.std.specs.Prelude.{ℕ, List, [], ◌∷◌, Ok, Err, Result}
use Rattle.rules.specs.declared.refusal.Refusal.{Refusal}
use Rattle.rules.specs.declared.refusal.Refusal.TheVariants.{TextLong, ZeroByte, CwdRelative, TooDeep, PathsMany, ListShort, Stranded, EpochEnd, NoRoom}

-- A refusal's number, and the values that go with it.
pub record Refused : Type 0 where
  pub number : ℕ
  pub values : List ℕ

-- A text's refusal has a number and no value.
abbrev pub textual : ℕ → Refused
textual n = record { number = n; values = [] }

-- More than 64 bytes; a zero byte; a working directory that is relative; over 8 names or 64 bytes once normalised; over 8 texts;
-- under 72 fault places; no place was left before; the last epoch; no place is left, with the number of faults written.
abbrev pub refused : Refusal → Refused
refused TextLong = record { number = 1; values = [] }
refused ZeroByte = record { number = 2; values = [] }
refused CwdRelative = record { number = 3; values = [] }
refused TooDeep = record { number = 4; values = [] }
refused PathsMany = record { number = 5; values = [] }
refused ListShort = record { number = 6; values = [] }
refused Stranded = record { number = 11; values = [] }
refused EpochEnd = record { number = 12; values = [] }
refused (NoRoom n) = record { number = 13; values = n ∷ [] }

-- A reply with the refusal's number and values in place of the refusal.
abbrev pub told : {A : Type 0} → Result A Refusal → Result A Refused
told (Ok x) = Ok x
told (Err e) = Err (refused e)
