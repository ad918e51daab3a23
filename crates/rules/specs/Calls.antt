-- The calls: opening, reconciling, the notices, the questions and closing.
use Rattle.std.specs.Prelude.{ℕ, ◌+◌, Bool, true, false, cond, ◌||◌, List, [], ◌∷◌, map, length, is_some, Some, None, Ok, Err, Option, Result, nat_le, nat_lt}
use Rattle.paths.specs.Names.{Names, Text}
use Rattle.paths.specs.Order.{before_path}
use Rattle.paths.specs.Texts.{read, zeroless, below_root}
use Rattle.outside.specs.declared.cause.BackendCause.{BackendCause}
use Rattle.outside.specs.Requests.{Answer, done, failed, unwatch}
use Rattle.rules.specs.declared.progress.Phase.TheVariants.{Settled}
use Rattle.rules.specs.declared.refusal.Refusal.TheVariants.{TextLong, ZeroByte, CwdRelative, PathsMany, Stranded, EpochEnd}
use Rattle.rules.specs.declared.watcher_kind.WatcherKind.{WatcherKind}
use Rattle.rules.specs.Refusals.{Refused, refused, textual}
use Rattle.rules.specs.Faults.{fault_path, is_watch_not_found}
use Rattle.rules.specs.Lists.{Set, sorted}
use Rattle.rules.specs.Roots.{Root}
use Rattle.rules.specs.Runs.{Run, end, ask}
use Rattle.rules.specs.State.{State, concerns_any}
use Rattle.rules.specs.Setters.{with_roots}
use Rattle.rules.specs.Edits.{Edit, Edited, kept, full}
use Rattle.rules.specs.Queueing.{join_root, begin_epoch}
use Rattle.rules.specs.Notices.{topology_create_one, topology_remove_one, topology_ambiguous_one, topology_rename}
use Rattle.rules.specs.Stepping.{Left, declined, strand}

-- A reading with its refusal as the calls answer it.
abbrev pub by_number : Result Names ℕ → Result Names Refused
by_number (Ok p) = Ok p
by_number (Err n) = Err (textual n)

-- A text as a path below the working directory, or the first refusal that it meets.
abbrev pub absolute : Names → Text → Result Names Refused
absolute cwd t = by_number (read cwd t)

-- The working directory: an absolute text.
unfoldable pub working_directory : Text → Result Names Refused
working_directory t =
    cond (nat_lt 64 (length t)) (Err (refused TextLong))
    (cond (zeroless t) (cond (is_some (below_root t)) (absolute [] t) (Err (refused CwdRelative))) (Err (refused ZeroByte)))

-- The state at the opening.
unfoldable pub fresh : WatcherKind → Bool → Names → State
fresh k follow cwd = record { roots = []; logical = []; owners = []; records = []; guards = []; guarded = []; seen = []; work = []; removals = []; owner_removals = []; sweep = []; phase = Settled; skipped = []; failures = []; retry_candidates = []; retry_roots = []; tombstones = []; latched = false; reported = false; refresh = false; stranded = false; epoch = 0; kind = k; follow = follow; cwd = cwd }

-- A root as it is asked for: a text, and the recursive mark.
pub record Wanted : Type 0 where
  pub text : Text
  pub recursive : Bool

-- One root more, unless a text is refused.
abbrev pub with_wanted : Bool → Result Names Refused → Result (List Root) Refused → Result (List Root) Refused
with_wanted b (Err e) rs = Err e
with_wanted b (Ok p) (Err e) = Err e
with_wanted b (Ok p) (Ok rs) = Ok (join_root (record { path = p; recursive = b }) rs)

-- The roots ascending, or the refusal of the first text that is refused.
abbrev pub wanted_roots : Names → List Wanted → Result (List Root) Refused
wanted_roots cwd [] = Ok []
wanted_roots cwd (x ∷ xs) = with_wanted x.recursive (absolute cwd x.text) (wanted_roots cwd xs)

-- Roots as a set.
abbrev pub as_set : List Root → Set Root
as_set rs = map (λ r. record { key = r; value = tt }) rs

-- What an edit leaves.
abbrev pub left_by : Edited → Left (Unit {0})
left_by (kept s) = record { gave = Ok tt; after = s; faults = [] }
left_by (full s) = strand s []

-- With the roots that the texts name, unless the epochs are at their end.
abbrev pub reconciled : State → Result (List Root) Refused → Left (Unit {0})
reconciled s (Err e) = declined e s
reconciled s (Ok rs) = cond (nat_le 1000000 s.epoch) (declined (refused EpochEnd) s) (left_by (begin_epoch (with_roots (as_set rs) s)))

-- The configured roots are these from now on, and a new epoch begins.
unfoldable pub reconcile : List Wanted → State → Left (Unit {0})
reconcile xs s = cond s.stranded (declined (refused Stranded) s) (cond (nat_lt 8 (length xs)) (declined (refused PathsMany) s) (reconciled s (wanted_roots s.cwd xs)))

-- A notice at a path, or the refusal of its text.
abbrev pub noticed : State → (Names → Edit) → Result Names Refused → Left (Unit {0})
noticed s f (Err e) = declined e s
noticed s f (Ok p) = left_by (f p s)

-- A notice by a text.
abbrev pub notice : (Names → Edit) → Text → State → Left (Unit {0})
notice f t s = cond s.stranded (declined (refused Stranded) s) (noticed s f (absolute s.cwd t))

-- Something appeared at a path.
unfoldable pub created : Text → State → Left (Unit {0})
created = notice (topology_create_one true)

-- Something went from a path.
unfoldable pub removed : Text → State → Left (Unit {0})
removed = notice topology_remove_one

-- Nobody knows what happened at a path.
unfoldable pub doubtful : Text → State → Left (Unit {0})
doubtful = notice topology_ambiguous_one

-- Both texts must be accepted, the first is tested first.
abbrev pub renamed_to : State → Result Names Refused → Result Names Refused → Left (Unit {0})
renamed_to s (Err e) to = declined e s
renamed_to s (Ok from) (Err e) = declined e s
renamed_to s (Ok from) (Ok to) = left_by (topology_rename from to s)

-- Something moved from one path to another.
unfoldable pub renamed : Text → Text → State → Left (Unit {0})
renamed from to s = cond s.stranded (declined (refused Stranded) s) (renamed_to s (absolute s.cwd from) (absolute s.cwd to))

-- One text: its refusal ends the question; what it adds to the answer is whether it concerns a root.
abbrev pub after_text : State → Bool → Result Names Refused → (Bool → Result Bool Refused) → Result Bool Refused
after_text s shown (Ok p) rest = rest (shown || concerns_any s p)
after_text s shown (Err e) rest = Err e

-- Whether some path concerns a root; every text is tested.
unfoldable pub any_public : State → Bool → List Text → Result Bool Refused
any_public s shown [] = Ok shown
any_public s shown (t ∷ ts) = after_text s shown (absolute s.cwd t) (λ b. any_public s b ts)

-- An event without texts is public.
abbrev pub without_text : List Text → Bool
without_text [] = true
without_text (t ∷ ts) = false

-- Whether an event at these paths is to be shown; too many texts are refused before any is tested.
unfoldable pub event_is_public : State → List Text → Result Bool Refused
event_is_public s ts = cond (nat_lt 8 (length ts)) (Err (refused PathsMany)) (any_public s (without_text ts) ts)

-- The first failure of a close: its path and cause.
pub record Failing : Type 0 where
  pub path : Names
  pub cause : BackendCause

-- What a close answers: its requests, how many failed, and the first that did.
pub record CloseReply : Type 0 where
  pub requests : ℕ
  pub failures : ℕ
  pub earliest : Option Failing

-- The first failure stays the first.
abbrev pub earlier : Option Failing → Failing → Option Failing
earlier None f = Some f
earlier (Some e) f = Some e

-- One more request that went well.
abbrev pub went_well : CloseReply → CloseReply
went_well r = record { requests = r.requests + 1; failures = r.failures; earliest = r.earliest }

-- One more request that failed.
abbrev pub went_wrong : Names → BackendCause → Option Names → CloseReply → CloseReply
went_wrong p c at r = record { requests = r.requests + 1; failures = r.failures + 1; earliest = earlier r.earliest (record { path = fault_path at p; cause = c }) }

-- One more answer: a watch that is not found is no failure.
abbrev pub counted : Names → Answer → CloseReply → CloseReply
counted p done r = went_well r
counted p (failed c at) r = cond (is_watch_not_found c) (went_well r) (went_wrong p c at r)

-- Each of these paths is unwatched in turn.
unfoldable pub close_all : List Names → CloseReply → Run CloseReply
close_all [] r = end r
close_all (p ∷ ps) r = ask (unwatch p) (λ a. close_all ps (counted p a r))

-- The watch paths of all records, ascending.
unfoldable pub watch_paths : State → List Names
watch_paths s = sorted before_path (map (λ e. e.value) s.records)

-- Every record is unwatched, by ascending watch path; nothing else changes.
unfoldable pub close : State → Run CloseReply
close s = close_all (watch_paths s) (record { requests = 0; failures = 0; earliest = None })
