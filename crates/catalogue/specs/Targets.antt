-- How a kind and a path hold a node.
use Rattle.std.specs.Prelude.{◌≡◌, ◌≢◌, [], refl}
use Rattle.std.proofs.Common.{sym}
use Rattle.paths.specs.Names.{Names}
use Rattle.catalogue.specs.declared.node.Kind.{Kind}
use Rattle.catalogue.specs.declared.node.Kind.TheVariants.{Directory, File, Link}
use Rattle.catalogue.specs.Nodes.{Node, directory, file, link}
use Rattle.catalogue.specs.Model.{node_of, kind_at}

-- Where there is no link, the path is "/".
abbrev pub tidy : Kind → Names → Type 0
tidy k t = k ≢ Link → t ≡ []

-- The path for a node.
abbrev pub target_at : Node → Names
target_at directory = []
target_at file = []
target_at (link t) = t

pub kind_back : (k : Kind) (t : Names) → kind_at (node_of k t) ≡ k
kind_back Directory t = refl
kind_back File t = refl
kind_back Link t = refl

pub target_back : (k : Kind) (t : Names) → tidy k t → target_at (node_of k t) ≡ t
target_back Directory t h = sym (h (λ e. cc))
target_back File t h = sym (h (λ e. cc))
target_back Link t h = refl
