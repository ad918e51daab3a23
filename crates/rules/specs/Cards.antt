-- Ten worked examples, as facts about the definitions.
use Rattle.std.specs.Prelude.{◌≡◌, ℕ, true, false, cond, List, [], ◌∷◌, map, Some, None, Ok, Err, codes}
use Rattle.paths.specs.Names.{Name, Names, Text, same_path, starts_with}
use Rattle.paths.specs.Texts.{normalised}
use Rattle.outside.specs.declared.cause.BackendCause.TheVariants.{Io}
use Rattle.outside.specs.declared.cause.ScanCause.TheVariants.{NotFound}
use Rattle.outside.specs.Answers.{Entry, directory, other, Classified, ListingItem, Listed}
use Rattle.outside.specs.Requests.{Request, watch, unwatch, done}
use Rattle.tables.specs.declared.entry.Entry.{Entry as Row}
use Rattle.rules.specs.declared.fault_kind.FaultKind.TheVariants.{TooManyHandles}
use Rattle.rules.specs.declared.progress.Reason.TheVariants.{Idle}
use Rattle.rules.specs.declared.watcher_kind.WatcherKind.TheVariants.{Inotify}
use Rattle.rules.specs.Faults.{scan_fault, resource}
use Rattle.rules.specs.Roots.{canonical, Owned}
use Rattle.rules.specs.Runs.{World, Run, end, ask}
use Rattle.rules.specs.State.{State, watch_path_of, logical_aliases}
use Rattle.rules.specs.Setters.{with_owners, with_epoch}
use Rattle.rules.specs.Queueing.{stale_owners}
use Rattle.rules.specs.Stepping.{Left, StepReply, RunReply, step, run}
use Rattle.rules.specs.Calls.{fresh, Wanted, reconcile, removed}

-- What a run came to when every request is answered done, and the requests in their order.
pub record Played (A : Type 0) : Type 0 where
  pub result : A
  pub requests : List Request

-- One request more in front.
abbrev pub noted : {A : Type 0} → Request → Played A → Played A
noted q p = record { result = p.result; requests = q ∷ p.requests }

-- Plays a run so.
abbrev pub all_done : {A : Type 0} → Run A → Played A
all_done (end x) = record { result = x; requests = [] }
all_done (ask q k) = noted q (all_done (k done))

-- A path by its text.
abbrev pub at : Text → Names
at t = normalised [] t

-- The working directory of the examples.
abbrev pub pod : Names
pod = at (codes "/pod")

-- A recursive root.
abbrev pub recursive : Text → Wanted
recursive t = record { text = t; recursive = true }

-- A tree of few entries: each path with what it is; anything else is not found.
pub record Node : Type 0 where
  pub path : Names
  pub is : Entry
  pub holds : List Name

-- What the scanner says of a path.
abbrev pub look : List Node → Names → Classified
look [] p = Err NotFound
look (x ∷ xs) p = cond (same_path x.path p) (Ok x.is) (look xs p)

-- Names as the items of a listing.
abbrev pub children : List Name → List ListingItem
children ns = map (λ n. Ok n) ns

-- What the scanner lists at a path.
abbrev pub list : List Node → Names → Listed
list [] p = Err NotFound
list (x ∷ xs) p = cond (same_path x.path p) (Ok (children x.holds)) (list xs p)

-- A world with these entries, in which everything is allowed.
abbrev pub tree : List Node → World
tree xs = record { classified = λ p follow. look xs p; listed = list xs; verdict = λ p. Ok true }

-- A directory with these names in it.
abbrev pub dir : Text → List Name → Node
dir t ns = record { path = at t; is = directory (at t); holds = ns }

-- A file.
abbrev pub file : Text → Node
file t = record { path = at t; is = other; holds = [] }

-- A link to a directory, as following sees it.
abbrev pub link : Text → Text → Node
link t to = record { path = at t; is = directory (at to); holds = [] }

-- /a holds the empty directory b and the file f.
abbrev pub first_tree : World
first_tree = tree (dir (codes "/") (codes "a" ∷ []) ∷ dir (codes "/a") (codes "b" ∷ codes "f" ∷ []) ∷ dir (codes "/a/b") [] ∷ file (codes "/a/f") ∷ [])

-- The root /a is configured and the run goes on to rest.
abbrev pub after_six : Played (Left RunReply)
after_six = all_done (run first_tree 100 512 (reconcile (recursive (codes "/a") ∷ []) (fresh Inotify false pod)).after)

-- Then no root is configured any more.
abbrev pub after_four : Played (Left RunReply)
after_four = all_done (run first_tree 100 512 (reconcile [] after_six.result.after).after)

-- /a is an empty directory.
abbrev pub second_tree : World
second_tree = tree (dir (codes "/") (codes "a" ∷ []) ∷ dir (codes "/a") [] ∷ [])

-- The root /a/x is configured.
abbrev pub after_three : Played (Left RunReply)
after_three = all_done (run second_tree 100 512 (reconcile (recursive (codes "/a/x") ∷ []) (fresh Inotify false pod)).after)

-- /a holds the empty directory d and the link l to it, and links are followed.
abbrev pub third_tree : World
third_tree = tree (dir (codes "/") (codes "a" ∷ []) ∷ dir (codes "/a") (codes "d" ∷ codes "l" ∷ []) ∷ dir (codes "/a/d") [] ∷ link (codes "/a/l") (codes "/a/d") ∷ [])

-- The root /a is configured, with following.
abbrev pub linked : Played (Left RunReply)
linked = all_done (run third_tree 100 512 (reconcile (recursive (codes "/a") ∷ []) (fresh Inotify true pod)).after)

-- Then /a/d is reported as removed, and one step is made.
abbrev pub lost : Played (Left StepReply)
lost = all_done (step third_tree 512 (removed (codes "/a/d") linked.result.after).after)

-- An owner that was marked in epoch 0.
abbrev pub old : Text → Row Owned ℕ
old t = record { key = record { path = at t; root = record { path = []; recursive = true } }; value = 0 }

-- In epoch 1, four such owners in the order of their table.
abbrev pub four_stale : State
four_stale = with_epoch 1 (with_owners (old (codes "/a") ∷ old (codes "/a/b") ∷ old (codes "/a/c") ∷ old (codes "/b/x/y") ∷ []) (fresh Inotify false pod))

-- One line each.
abbrev pub Cards : Type 0
Cards =
    (normalised pod (codes "/a//b/./c/..") ≡ at (codes "/a/b"))
    × (normalised pod (codes "../x") ≡ at (codes "/x"))
    × (starts_with (at (codes "/a/bc")) (at (codes "/a/b")) ≡ false)
    × (map (λ x. x.path) (stale_owners four_stale) ≡ at (codes "/b/x/y") ∷ at (codes "/a/c") ∷ at (codes "/a/b") ∷ at (codes "/a") ∷ [])
    × ((resource (Io 24) ≡ Some TooManyHandles) × (resource (Io 5) ≡ None))
    × ((after_six.result.gave ≡ Ok (record { steps = 6; faults = 0; reason = Idle })) × (after_six.requests ≡ watch (at (codes "/a")) ∷ watch (at (codes "/a/b")) ∷ []))
    × ((after_four.result.gave ≡ Ok (record { steps = 4; faults = 0; reason = Idle })) × (after_four.requests ≡ unwatch (at (codes "/a/b")) ∷ unwatch (at (codes "/a")) ∷ []))
    × ((after_three.result.gave ≡ Ok (record { steps = 3; faults = 1; reason = Idle })) × (after_three.result.faults ≡ scan_fault (at (codes "/a/x")) NotFound ∷ []) × (after_three.requests ≡ watch (at (codes "/a")) ∷ []) × (after_three.result.after.guards ≡ record { key = at (codes "/a"); value = record { identity = canonical (at (codes "/a")); attached = true } } ∷ []))
    × (logical_aliases linked.result.after (canonical (at (codes "/a/d"))) ≡ at (codes "/a/d") ∷ at (codes "/a/l") ∷ [])
    × ((lost.result.gave ≡ Ok (record { faults = 0; rebuild = true })) × (lost.requests ≡ []) × (watch_path_of lost.result.after (canonical (at (codes "/a/d"))) ≡ Some (at (codes "/a/d"))) × (logical_aliases lost.result.after (canonical (at (codes "/a/d"))) ≡ at (codes "/a/l") ∷ []))
