-- Acts: what a step does. It may make requests, write faults, ask a rebuild, and stop for want of a place.
use Rattle.std.specs.Prelude.{Bool, true, false, cond, List, [], ◌∷◌, ◌++◌, length, Ok, Err, Result, nat_lt}
use Rattle.outside.specs.Requests.{Request, Answer}
use Rattle.tables.specs.declared.full.NoPlace.{NoPlace}
use Rattle.rules.specs.Faults.{Fault}
use Rattle.rules.specs.Runs.{Run, end, ask, then}
use Rattle.rules.specs.State.{State}
use Rattle.rules.specs.Edits.{Edit, Edited, kept, full}

-- The state reached, the faults written so far, and whether a rebuild was asked.
pub record Progress : Type 0 where
  pub state : State
  pub faults : List Fault
  pub rebuild : Bool

-- It went through and gave a value, or a place was wanting.
pub data Outcome (A : Type 0) : Type 0 where
  went : A → Progress → Outcome A
  halted : Progress → Outcome A

-- What a reply says of the progress that it came with.
abbrev pub outcome : {A : Type 0} → Result A NoPlace → Progress → Outcome A
outcome (Ok x) n = went x n
outcome (Err e) n = halted n

-- An act goes on from a point reached.
abbrev pub Act : Type 0 → Type 0
Act A = Progress → Run (Outcome A)

-- What follows an outcome: nothing follows a stop.
abbrev pub next : {A B : Type 0} → (A → Act B) → Outcome A → Run (Outcome B)
next f (went x n) = f x n
next f (halted n) = end (halted n)

-- One act after another, with the value that the first gave.
infixl 1 ◌>>=◌
abbrev pub ◌>>=◌ : {A B : Type 0} → Act A → (A → Act B) → Act B
◌>>=◌ m f n = then (m n) (next f)

-- One act after another, without its value.
infixl 1 ◌>>◌
abbrev pub ◌>>◌ : {A B : Type 0} → Act A → Act B → Act B
◌>>◌ m k n = then (m n) (next (λ x. k))

-- Gives a value and does nothing.
abbrev pub give : {A : Type 0} → A → Act A
give x n = end (went x n)

-- Does nothing.
abbrev pub pass : Act (Unit {0})
pass n = end (went tt n)

-- Looks at the state first.
abbrev pub looking : {A : Type 0} → (State → Act A) → Act A
looking f n = f n.state n

-- Whether a rebuild was asked up to this point.
abbrev pub asked : Act Bool
asked n = end (went n.rebuild n)

-- Another state, the rest as it was.
abbrev pub at_state : State → Progress → Progress
at_state s n = record { state = s; faults = n.faults; rebuild = n.rebuild }

-- The point reached after an edit.
abbrev pub after_edit : Progress → Edited → Outcome (Unit {0})
after_edit n (kept s) = went tt (at_state s n)
after_edit n (full s) = halted (at_state s n)

-- An edit as an act.
abbrev pub edit : Edit → Act (Unit {0})
edit e n = end (after_edit n (e n.state))

-- A change that needs no place, as an act.
abbrev pub change : (State → State) → Act (Unit {0})
change f n = end (went tt (at_state (f n.state) n))

-- One request to the backend.
abbrev pub request : Request → Act Answer
request q n = ask q (λ a. end (went a n))

-- With one fault more.
abbrev pub with_fault : Fault → Progress → Progress
with_fault f n = record { state = n.state; faults = n.faults ++ f ∷ []; rebuild = n.rebuild }

-- One fault more, of at most 72 in a step. No step writes so many: a scan writes 64 at most, any other work a few.
unfoldable pub reported : Fault → Progress → Outcome (Unit {0})
reported f n = cond (nat_lt (length n.faults) 72) (went tt (with_fault f n)) (halted n)

-- Writing a fault, as an act.
abbrev pub report : Fault → Act (Unit {0})
report f n = end (reported f n)

-- A rebuild is asked; the act goes on.
abbrev pub ask_rebuild : Act (Unit {0})
ask_rebuild n = end (went tt (record { state = n.state; faults = n.faults; rebuild = true }))

-- No place is left.
abbrev pub no_place : {A : Type 0} → Act A
no_place n = end (halted n)

-- Goes on only if there is a place.
abbrev pub wants : Bool → Act (Unit {0})
wants true = pass
wants false = no_place
