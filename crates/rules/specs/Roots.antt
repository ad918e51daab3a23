-- Roots and identities, and the keys that are made of them: how each is told apart and ordered.
use Rattle.std.specs.Prelude.{Bool, ◌&&◌}
use Rattle.std.specs.Bool.{beq}
use Rattle.std.specs.Ordering.{ordering_then, bool_cmp, is_lt}
use Rattle.std.specs.declared.cmp.Ordering.{Ordering}
use Rattle.rules.specs.contracts.identity_kind.IdentityKindPartialEq.TheImpl as kind_eq
use Rattle.rules.specs.contracts.identity_kind.IdentityKindOrd.TheImpl as kind_ord
use Rattle.paths.specs.Names.{Names, same_path}
use Rattle.paths.specs.Order.{order_path}
use Rattle.rules.specs.declared.identity_kind.IdentityKind.{IdentityKind}
use Rattle.rules.specs.declared.identity_kind.IdentityKind.TheVariants.{Canonical, Lexical}
-- A root is a path, and whether what lies below is watched too.
pub use Rattle.rules.specs.declared.root.Root.{Root}
-- An identity says what a path is: a directory by its canonical path, anything else by the path as it is named.
pub use Rattle.rules.specs.declared.identity.Identity.{Identity}
-- A path that a root owns.
pub use Rattle.rules.specs.declared.owned.Owned.{Owned}
-- A root and a path that concerns it.
pub use Rattle.rules.specs.declared.share.Share.{Share}
-- An identity that was scanned for a root.
pub use Rattle.rules.specs.declared.seen.Seen.{Seen}

-- The same path and mark.
abbrev pub same_root : Root → Root → Bool
same_root r q = same_path r.path q.path && beq r.recursive q.recursive

-- By path, the non-recursive first.
abbrev pub order_root : Root → Root → Ordering
order_root r q = ordering_then (order_path r.path q.path) (bool_cmp r.recursive q.recursive)

-- r comes before q.
abbrev pub before_root : Root → Root → Bool
before_root r q = is_lt (order_root r q)

abbrev pub canonical : Names → Identity
canonical p = record { kind = Canonical; path = p }

abbrev pub lexical : Names → Identity
lexical p = record { kind = Lexical; path = p }

-- The same kind, as the derive tells kinds apart.
abbrev pub same_kind : IdentityKind → IdentityKind → Bool
same_kind = kind_eq.ghosts.eq

-- The canonical ones first, as the derive orders kinds.
abbrev pub order_kind : IdentityKind → IdentityKind → Ordering
order_kind = kind_ord.ghosts.cmp

-- The same kind and path.
abbrev pub same_identity : Identity → Identity → Bool
same_identity i j = same_kind i.kind j.kind && same_path i.path j.path

-- The canonical ones first, each kind by path.
abbrev pub order_identity : Identity → Identity → Ordering
order_identity i j = ordering_then (order_kind i.kind j.kind) (order_path i.path j.path)

-- By path, then by root.
abbrev pub order_owned : Owned → Owned → Ordering
order_owned x y = ordering_then (order_path x.path y.path) (order_root x.root y.root)

-- By root, then by path.
abbrev pub order_share : Share → Share → Ordering
order_share x y = ordering_then (order_root x.root y.root) (order_path x.path y.path)

-- By root, then by identity.
abbrev pub order_seen : Seen → Seen → Ordering
order_seen x y = ordering_then (order_root x.root y.root) (order_identity x.identity y.identity)
