-- What the values of the code stand for.
use Rattle.std.specs.Prelude.{ℕ, zero, suc, Some, None, Ok, Err, Option, Result}
use Rattle.paths.specs.Names.{Names}
use Rattle.outside.specs.Answers.{Entry, directory as a_directory, other}
use Rattle.outside.specs.declared.cause.ScanCause.{ScanCause}
use Rattle.outside.specs.declared.cause.ScanCause.TheVariants.{NotFound, Number}
use Rattle.catalogue.specs.declared.node.Kind.{Kind}
use Rattle.catalogue.specs.declared.node.Kind.TheVariants.{Directory, File, Link}
use Rattle.catalogue.specs.declared.way.Stop.{Stop}
use Rattle.catalogue.specs.declared.way.Stop.TheVariants.{Lost, Cause}
use Rattle.catalogue.specs.Nodes.{Node, directory, file, link}
use Rattle.catalogue.specs.Ways.{Way, clear, replaced, stopped, Arrival}

-- A kind with the path that stands beside it, a link's target.
abbrev pub node_of : Kind → Names → Node
node_of Directory t = directory
node_of File t = file
node_of Link t = link t

-- What a way came to, with the path that stands beside it: no kind where that path replaces the way's own.
abbrev pub way_of : Result (Option Kind) Stop → Names → Way
way_of (Ok (Some k)) t = clear (node_of k t)
way_of (Ok None) t = replaced (Some t)
way_of (Err Lost) t = replaced None
way_of (Err (Cause c)) t = stopped c

-- The kind of a node, without a link's target.
abbrev pub kind_at : Node → Kind
kind_at directory = Directory
kind_at file = File
kind_at (link t) = Link

-- What stands at a path that was come to.
abbrev pub entry_by : Kind → Names → Entry
entry_by Directory p = a_directory p
entry_by File p = other
entry_by Link p = other

-- The reply to a walk, whose path stands in the place that the caller lent.
abbrev pub replied : Result Arrival ScanCause → Result Kind ScanCause
replied (Ok a) = Ok (kind_at a.node)
replied (Err c) = Err c

-- The path that was come to, or what the place holds.
abbrev pub come_to : Result Arrival ScanCause → Names → Names
come_to (Ok a) p = a.at
come_to (Err c) p = p

-- Why a path that breaks the limits leads nowhere, with so many replacements left.
abbrev pub lost : ℕ → ScanCause
lost zero = Number 40
lost (suc left) = NotFound

-- Why a way that was stopped leads nowhere, with so many replacements left.
abbrev pub stopped_by : Stop → ℕ → ScanCause
stopped_by Lost left = lost left
stopped_by (Cause c) left = c
