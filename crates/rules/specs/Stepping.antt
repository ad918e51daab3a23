-- One step, and a run of steps.
use Rattle.std.specs.Prelude.{ℕ, zero, suc, ◌+◌, ◌-◌, Bool, true, false, cond, not, List, [], ◌∷◌, ◌++◌, map, length, Some, None, Ok, Err, Option, Result, nat_lt}
use Rattle.paths.specs.Names.{Names}
use Rattle.rules.specs.declared.progress.Phase.{Phase}
use Rattle.rules.specs.declared.progress.Phase.TheVariants.{Traversing, Sweeping, Settled}
use Rattle.rules.specs.declared.progress.Reason.{Reason}
use Rattle.rules.specs.declared.progress.Reason.TheVariants.{Rebuild, Idle, Crowded, Spent}
use Rattle.rules.specs.declared.refusal.Refusal.TheVariants.{ListShort, Stranded, NoRoom}
use Rattle.rules.specs.Refusals.{Refused, refused}
use Rattle.rules.specs.Faults.{Fault}
use Rattle.rules.specs.Lists.{empty}
use Rattle.rules.specs.Roots.{Share}
use Rattle.rules.specs.Runs.{World, Run, end, then}
use Rattle.rules.specs.State.{State, Stale, Work, has_work}
use Rattle.rules.specs.Setters.{with_removals, with_owner_removals, with_work, with_sweep, with_phase, with_tombstones, with_refresh, with_stranded}
use Rattle.rules.specs.Acts.{Act, Progress, Outcome, went, halted, ◌>>◌, pass, looking, change}
use Rattle.rules.specs.Queueing.{prepare_sweep}
use Rattle.rules.specs.Removing.{remove_logical, remove_owner, remove_owner_force}
use Rattle.rules.specs.Works.{step_work}

-- What a step answers: how many faults it wrote, and whether it asked a rebuild.
pub record StepReply : Type 0 where
  pub faults : ℕ
  pub rebuild : Bool

-- What a run answers: its steps, its faults and why it ended.
pub record RunReply : Type 0 where
  pub steps : ℕ
  pub faults : ℕ
  pub reason : Reason

-- What a call leaves: its reply, the state after it and the faults that it wrote.
pub record Left (A : Type 0) : Type 0 where
  pub gave : Result A Refused
  pub after : State
  pub faults : List Fault

-- Refused with nothing changed.
abbrev pub declined : {A : Type 0} → Refused → State → Left A
declined e s = record { gave = Err e; after = s; faults = [] }

-- Refused for want of a place: what was done stands, and the state is stranded.
abbrev pub strand : {A : Type 0} → State → List Fault → Left A
strand s fs = record { gave = Err (refused (NoRoom (length fs))); after = with_stranded true s; faults = fs }

-- The epoch is settled.
unfoldable pub settle : State → State
settle s = with_phase Settled s

-- An empty sweep settles at once.
abbrev pub settle_if : Bool → Act (Unit {0})
settle_if true = change settle
settle_if false = pass

-- The first entry of the sweep, or its end.
abbrev pub sweep_on : List Stale → Act (Unit {0})
sweep_on [] = change settle
sweep_on (x ∷ xs) = do
  change (with_sweep xs)
  remove_owner x.path x.root x.epoch

-- No work waits: the phase moves.
abbrev pub move_phase : Phase → List Stale → Act (Unit {0})
move_phase Traversing sweep = do
  change prepare_sweep
  looking (λ s. settle_if (empty s.sweep))
move_phase Sweeping sweep = sweep_on sweep
move_phase Settled sweep = pass

-- Tombstones that are due go.
unfoldable pub refresh_tombstones : State → State
refresh_tombstones s = cond s.refresh (with_tombstones [] (with_refresh false s)) s

-- What a step leaves.
abbrev pub stepped : Outcome (Unit {0}) → Left StepReply
stepped (went x n) = record { gave = Ok (record { faults = length n.faults; rebuild = n.rebuild }); after = n.state; faults = n.faults }
stepped (halted n) = strand n.state n.faults

-- A step begins without faults and without a rebuild asked.
abbrev pub begun : State → Progress
begun s = record { state = s; faults = []; rebuild = false }

-- Why a step or run with this many fault places is refused before it begins.
abbrev pub barred : ℕ → State → Option Refused
barred places s = cond s.stranded (Some (refused Stranded)) (cond (nat_lt places 72) (Some (refused ListShort)) None)

-- A run that ends.
abbrev pub stops : Reason → ℕ → List Fault → State → Left RunReply
stops why k fs s = record { gave = Ok (record { steps = k; faults = length fs; reason = why }); after = s; faults = fs }

-- Why a run goes no further, but for its budget: tested in this order before each step.
abbrev pub why_not : Bool → State → ℕ → Option Reason
why_not rebuilds s free = cond rebuilds (Some Rebuild) (cond (not (has_work s)) (Some Idle) (cond (nat_lt free 72) (Some Crowded) None))

-- The budget is spent, unless something else ends the run.
abbrev pub at_end : Option Reason → Reason
at_end (Some why) = why
at_end None = Spent

-- A refusal that tells faults tells also those written before this step.
abbrev pub grown : ℕ → Refused → Refused
grown k e = record { number = e.number; values = map (λ n. k + n) e.values }

-- Goes on unless there is a reason to stop.
abbrev pub unless_over : Option Reason → ℕ → List Fault → State → (State → Run (Left RunReply)) → Run (Left RunReply)
unless_over (Some why) k fs s go = end (stops why k fs s)
unless_over None k fs s go = go s

-- What follows a step of a run: the rest of the run, or its refusal.
abbrev pub went_on : List Fault → Left StepReply → (Bool → List Fault → State → Run (Left RunReply)) → Result StepReply Refused → Run (Left RunReply)
went_on fs l go (Ok r) = go r.rebuild (fs ++ l.faults) l.after
went_on fs l go (Err e) = end (record { gave = Err (grown (length fs) e); after = l.after; faults = fs ++ l.faults })

module _ (w : World) where
  -- The first work, or a move of the phase.
  abbrev pub on_work : List Work → Act (Unit {0})
  on_work (k ∷ ks) = do
    change (with_work ks)
    step_work w k
  on_work [] = looking (λ s. move_phase s.phase s.sweep)

  -- The first owner removal, or what comes after.
  abbrev pub on_owner_removals : List Share → Act (Unit {0})
  on_owner_removals (x ∷ xs) = do
    change (with_owner_removals xs)
    remove_owner_force x.root x.path
  on_owner_removals [] = do
    change refresh_tombstones
    looking (λ s. on_work s.work)

  -- The first logical removal, or what comes after.
  abbrev pub on_removals : List Names → Act (Unit {0})
  on_removals (p ∷ ps) = do
    change (with_removals ps)
    remove_logical p
  on_removals [] = looking (λ s. on_owner_removals s.owner_removals)

  -- The first of: a logical removal, an owner removal, a work, a move of the phase.
  unfoldable pub one_step : Act (Unit {0})
  one_step = looking (λ s. on_removals s.removals)

  -- A step, unless it is refused.
  abbrev pub step_unless : Option Refused → State → Run (Left StepReply)
  step_unless (Some e) s = end (declined e s)
  step_unless None s = then (one_step (begun s)) (λ o. end (stepped o))

  -- A step with so many fault places.
  unfoldable pub step : ℕ → State → Run (Left StepReply)
  step places s = step_unless (barred places s) s

  -- A run with so much budget left, after k steps of which the last asked a rebuild or not, and with the faults written so far.
  unfoldable pub run_on : ℕ → Bool → ℕ → ℕ → List Fault → State → Run (Left RunReply)
  run_on zero rebuilds k places fs s = end (stops (at_end (why_not rebuilds s (places - length fs))) k fs s)
  run_on (suc budget) rebuilds k places fs s =
      unless_over (why_not rebuilds s (places - length fs)) k fs s
      (λ t. then (step (places - length fs) t) (λ l. went_on fs l (λ b gs u. run_on budget b (k + 1) places gs u) l.gave))

  -- A run, unless it is refused.
  abbrev pub run_unless : Option Refused → ℕ → ℕ → State → Run (Left RunReply)
  run_unless (Some e) budget places s = end (declined e s)
  run_unless None budget places s = run_on budget false 0 places [] s

  -- A run with a budget of steps and so many fault places.
  unfoldable pub run : ℕ → ℕ → State → Run (Left RunReply)
  run budget places s = run_unless (barred places s) budget places s
