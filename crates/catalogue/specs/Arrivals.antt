-- What the reply to a walk, and the path beside it, say of a path.
use Rattle.std.specs.Prelude.{◌≡◌, ℕ, Bool, true, cond, map, Ok, Err, Result, ◌≢◌, refl}
use Rattle.std.proofs.Common.{sym, ap, ◌∙◌, arith}
use Rattle.outside.specs.declared.cause.ScanCause.{ScanCause}
use Rattle.outside.specs.declared.cause.ScanCause.TheVariants.{Number, NotFound}
use Rattle.outside.specs.Answers.{directory as a_directory, symlink, other, Classified, Listed}
use Rattle.paths.specs.Names.{Names}
use Rattle.catalogue.specs.declared.node.Kind.{Kind}
use Rattle.catalogue.specs.declared.node.Kind.TheVariants.{Directory, File, Link}
use Rattle.catalogue.specs.Nodes.{Node, Nodes, directory, file, link, children}
use Rattle.catalogue.specs.Ways.{Arrival, entry, followed, classified_by, classified_at, listed_by, listed_at}
use Rattle.catalogue.specs.Model.{kind_at, entry_by, replied, come_to}

abbrev pub followed_by : Result Kind ScanCause → Names → Classified
followed_by (Ok k) p = Ok (entry_by k p)
followed_by (Err NotFound) p = Ok other
followed_by (Err (Number n)) p = Err (Number n)

followed_at : (x : Node) (p at : Names) → at ≡ p → Ok (entry x p) ≡ followed_by (Ok (kind_at x)) at
followed_at directory p at e = ap (λ q. Ok (a_directory q)) (sym e)
followed_at file p at e = refl
followed_at (link t) p at e = refl

pub followed_as : (a : Result Arrival ScanCause) (r : Result Kind ScanCause) (at : Names) → r ≡ replied a → at ≡ come_to a at → followed a ≡ followed_by r at
followed_as (Ok a) r at e f = followed_at a.node a.at at f ∙ ap (λ v. followed_by v at) (sym e)
followed_as (Err NotFound) r at e f = ap (λ v. followed_by v at) (sym e)
followed_as (Err (Number n)) r at e f = ap (λ v. followed_by v at) (sym e)

module _ (follow : Bool) (through : Result Arrival ScanCause) where
  abbrev pub classified_from : Result Kind ScanCause → Names → Classified
  classified_from (Ok Directory) p = Ok (a_directory p)
  classified_from (Ok File) p = Ok other
  classified_from (Ok Link) p = cond follow (followed through) (Ok symlink)
  classified_from (Err c) p = Err c

  classified_node : (x : Node) (p at : Names) → at ≡ p → classified_by x p follow through ≡ classified_from (Ok (kind_at x)) at
  classified_node directory p at e = ap (λ q. Ok (a_directory q)) (sym e)
  classified_node file p at e = refl
  classified_node (link t) p at e = refl

  pub classified_as : (a : Result Arrival ScanCause) (r : Result Kind ScanCause) (at : Names) → r ≡ replied a → at ≡ come_to a at → classified_at a follow through ≡ classified_from r at
  classified_as (Ok a) r at e f = classified_node a.node a.at at f ∙ ap (λ v. classified_from v at) (sym e)
  classified_as (Err c) r at e f = ap (λ v. classified_from v at) (sym e)

module _ (xs : Nodes) where
  abbrev pub listed_from : Result Kind ScanCause → Names → Listed
  listed_from (Ok Directory) p = Ok (map Ok (children p xs))
  listed_from (Ok File) p = Err (Number 20)
  listed_from (Ok Link) p = Err (Number 20)
  listed_from (Err c) p = Err c

  listed_node : (x : Node) (p at : Names) → at ≡ p → listed_by xs x p ≡ listed_from (Ok (kind_at x)) at
  listed_node directory p at e = ap (λ q. Ok (map Ok (children q xs))) (sym e)
  listed_node file p at e = refl
  listed_node (link t) p at e = refl

  pub listed_as : (a : Result Arrival ScanCause) (r : Result Kind ScanCause) (at : Names) → r ≡ replied a → at ≡ come_to a at → listed_at xs a ≡ listed_from r at
  listed_as (Ok a) r at e f = listed_node a.node a.at at f ∙ ap (λ v. listed_from v at) (sym e)
  listed_as (Err c) r at e f = ap (λ v. listed_from v at) (sym e)

entry_no_link : (x : Node) (p : Names) → entry x p ≢ symlink
entry_no_link directory p e = let z : ◌≡◌ {A = ℕ} 0 1 = cc in omega arith
entry_no_link file p e = let z : ◌≡◌ {A = ℕ} 0 1 = cc in omega arith
entry_no_link (link t) p e = let z : ◌≡◌ {A = ℕ} 0 1 = cc in omega arith

followed_no_link : (a : Result Arrival ScanCause) → followed a ≢ Ok symlink
followed_no_link (Ok a) e = entry_no_link a.node a.at (cc)
followed_no_link (Err NotFound) e = let z : ◌≡◌ {A = ℕ} 0 1 = cc in omega arith
followed_no_link (Err (Number n)) e = let z : ◌≡◌ {A = ℕ} 0 1 = cc in omega arith

node_no_link : (x : Node) (p : Names) (through : Result Arrival ScanCause) → classified_by x p true through ≢ Ok symlink
node_no_link directory p a e = let z : ◌≡◌ {A = ℕ} 0 1 = cc in omega arith
node_no_link file p a e = let z : ◌≡◌ {A = ℕ} 0 1 = cc in omega arith
node_no_link (link t) p a e = followed_no_link a e

-- with following on, no path is a link
pub no_link : (a through : Result Arrival ScanCause) → classified_at a true through ≢ Ok symlink
no_link (Ok a) through e = node_no_link a.node a.at through e
no_link (Err c) through e = let z : ◌≡◌ {A = ℕ} 0 1 = cc in omega arith
