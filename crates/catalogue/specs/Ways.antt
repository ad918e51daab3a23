-- Where a path leads in a catalogue.
use Rattle.std.specs.Prelude.{ℕ, zero, suc, Bool, true, false, cond, [], ◌∷◌, map, Some, None, Ok, Err, Option, Result}
use Rattle.paths.specs.Names.{Names, within}
use Rattle.outside.specs.declared.cause.ScanCause.{ScanCause}
use Rattle.outside.specs.declared.cause.ScanCause.TheVariants.{NotFound, Number}
use Rattle.outside.specs.Answers.{Entry, directory as a_directory, symlink, other, Classified, Listed}
use Rattle.catalogue.specs.Nodes.{Node, directory, file, link, Nodes, node_at, children}

-- What the way down from "/" to a path comes to: the path's node; the path that it becomes when the first link on it is
-- replaced, or none that keeps the limits; a cause.
pub data Way : Type 0 where
  clear : Node → Way
  replaced : Option Names → Way
  stopped : ScanCause → Way

-- A node that is there or missing.
abbrev pub seen : Option Node → Way
seen None = stopped NotFound
seen (Some x) = clear x

-- The last name of p below q, if that keeps the limits.
abbrev pub below : Names → Option Names → Option Names
below [] q = None
below (n ∷ p) None = None
below (n ∷ p) (Some q) = cond (within (n ∷ q)) (Some (n ∷ q)) None

-- One name further down, to p: through a directory to the node at p, through a link to what lies below its target.
abbrev pub onward : Nodes → Way → Names → Way
onward xs (clear directory) p = seen (node_at xs p)
onward xs (clear file) p = stopped (Number 20)
onward xs (clear (link t)) p = replaced (below p (Some t))
onward xs (replaced q) p = replaced (below p q)
onward xs (stopped c) p = stopped c

abbrev pub way : Nodes → Names → Way
way xs [] = seen (node_at xs [])
way xs (n ∷ p) = onward xs (way xs p) (n ∷ p)

-- A link in last place is passed where `last` says so.
abbrev pub passed : Bool → Way → Way
passed last (clear directory) = clear directory
passed last (clear file) = clear file
passed last (clear (link t)) = cond last (replaced (Some t)) (clear (link t))
passed last (replaced q) = replaced q
passed last (stopped c) = stopped c

-- A place that was come to: a path with no link above its last name, and its node.
pub record Arrival : Type 0 where
  pub at : Names
  pub node : Node

-- The end of the way to p, or what follows for the path that replaces it.
abbrev pub by_way : Way → Names → (Option Names → Result Arrival ScanCause) → Result Arrival ScanCause
by_way (clear x) p on = Ok (record { at = p; node = x })
by_way (replaced q) p on = on q
by_way (stopped c) p on = Err c

-- A path that breaks the limits leads to nothing.
abbrev pub on_with : (Names → Result Arrival ScanCause) → Option Names → Result Arrival ScanCause
on_with go None = Err NotFound
on_with go (Some q) = go q

-- Where a path leads with so many replacements left; one more gives number 40.
unfoldable pub arrive : Bool → Nodes → ℕ → Names → Result Arrival ScanCause
arrive last xs zero p = by_way (passed last (way xs p)) p (λ q. Err (Number 40))
arrive last xs (suc left) p = by_way (passed last (way xs p)) p (on_with (arrive last xs left))

-- A directory by the path that was come to, anything else.
abbrev pub entry : Node → Names → Entry
entry directory p = a_directory p
entry file p = other
entry (link t) p = other

-- What a followed link is: one that leads to nothing is neither a directory nor a cause.
abbrev pub followed : Result Arrival ScanCause → Classified
followed (Ok a) = Ok (entry a.node a.at)
followed (Err NotFound) = Ok other
followed (Err (Number n)) = Err (Number n)

-- A path by the node in its last place; a link is followed or not.
abbrev pub classified_by : Node → Names → Bool → Result Arrival ScanCause → Classified
classified_by directory p follow through = Ok (a_directory p)
classified_by file p follow through = Ok other
classified_by (link t) p follow through = cond follow (followed through) (Ok symlink)

abbrev pub classified_at : Result Arrival ScanCause → Bool → Result Arrival ScanCause → Classified
classified_at (Ok a) follow through = classified_by a.node a.at follow through
classified_at (Err c) follow through = Err c

-- The classification of a path, with at most 8 replacements.
abbrev pub classified : Nodes → Names → Bool → Classified
classified xs p follow = classified_at (arrive false xs 8 p) follow (arrive true xs 8 p)

-- What a directory lists; nothing else has a listing.
abbrev pub listed_by : Nodes → Node → Names → Listed
listed_by xs directory p = Ok (map Ok (children p xs))
listed_by xs file p = Err (Number 20)
listed_by xs (link t) p = Err (Number 20)

abbrev pub listed_at : Nodes → Result Arrival ScanCause → Listed
listed_at xs (Ok a) = listed_by xs a.node a.at
listed_at xs (Err c) = Err c

-- The listing of a path: its last link is passed too.
abbrev pub listed : Nodes → Names → Listed
listed xs p = listed_at xs (arrive true xs 8 p)
