-- The nodes of a catalogue, each under its path.
use Rattle.std.specs.Prelude.{cond, not, List, [], ◌∷◌, Some, None, filter, Option, Result}
use Rattle.std.specs.List.{filter_map}
use Rattle.paths.specs.Names.{Name, Names, same_path, starts_with}
use Rattle.paths.specs.Order.{order_path}
use Rattle.tables.specs.declared.entry.Entry.{Entry}
use Rattle.tables.specs.declared.full.NoPlace.{NoPlace}
use Rattle.tables.specs.Entries.{held, entered}

-- A directory, a file, or a link to a path.
pub data Node : Type 0 where
  directory : Node
  file : Node
  link : Names → Node

-- The nodes in the order of their paths.
abbrev pub Nodes : Type 0
Nodes = List (Entry Names Node)

-- Nothing but "/", a directory.
abbrev pub bare : Nodes
bare = record { key = []; value = directory } ∷ []

-- The node at a path.
abbrev pub node_at : Nodes → Names → Option Node
node_at xs p = held order_path p xs

-- The reply and the nodes after one is put at a path: it replaces the node there, or takes a place of its own, if one of the 64 is left.
abbrev pub put : Names → Node → Nodes → Result (Unit {0}) NoPlace × Nodes
put p x xs = entered order_path 64 p x xs

-- The nodes that neither stand at a path nor below it.
abbrev pub struck : Names → Nodes → Nodes
struck p xs = filter (λ e. not (starts_with e.key p)) xs

-- The name of a path that is a child of d.
abbrev pub child_name : Names → Names → Option Name
child_name [] d = None
child_name (n ∷ p) d = cond (same_path p d) (Some n) None

-- The names of the children of d, in the order of the nodes.
abbrev pub children : Names → Nodes → List Name
children d xs = filter_map (λ e. child_name e.key d) xs
