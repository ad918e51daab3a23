-- The keys of the tables are lawful, as their derives show: each order is total, and ties those that are the same.
use Rattle.std.specs.Prelude.{◌≡◌, Bool, true, false, ◌&&◌, refl}
use Rattle.std.proofs.Common.{sym, ap, ◌∙◌, true≢false}
use Rattle.std.proofs.lemmas.Cmp.{tied_itself}
use Rattle.std.specs.Cmp.{IsTotalOrder, bool_cmp_total}
use Rattle.std.specs.Ordering.{bool_cmp, eq_by_cmp, is_eq, is_lt, ordering_reverse}
use Rattle.std.specs.declared.cmp.Ordering.{Ordering}
use Rattle.std.specs.declared.cmp.Ordering.TheVariants.{Less, Equal, Greater}
use Rattle.std.specs.Bool.{beq}
use Rattle.paths.specs.Names.{Names, same_path}
use Rattle.paths.specs.Order.{order_path, before_path}
use Rattle.paths.specs.Equal.{path_total, path_ties}
use Rattle.rules.specs.declared.identity_kind.IdentityKind.{IdentityKind}
use Rattle.rules.specs.declared.identity_kind.IdentityKind.TheVariants.{Canonical, Lexical}
use Rattle.rules.specs.Lawful.{Lawful, ranked}
use Rattle.rules.specs.Roots.{Root, same_root, order_root, before_root, same_kind, order_kind, Identity, same_identity, order_identity, Owned, order_owned, Share, order_share, Seen, order_seen}
use Rattle.rules.specs.contracts.identity_kind.IdentityKindOrd.TheImpl.Laws as of_kind
use Rattle.rules.specs.contracts.root.RootOrd.TheImpl.Laws as of_root
use Rattle.rules.specs.contracts.identity.IdentityOrd.TheImpl.Laws as of_identity
use Rattle.rules.specs.contracts.owned.OwnedOrd.TheImpl.Laws as of_owned
use Rattle.rules.specs.contracts.share.ShareOrd.TheImpl.Laws as of_share
use Rattle.rules.specs.contracts.seen.SeenOrd.TheImpl.Laws as of_seen

less : (o : Ordering) → is_lt o ≡ true → o ≡ Less
less Less e = refl
less Equal e = absurd (true≢false (sym e))
less Greater e = absurd (true≢false (sym e))

equal : (o : Ordering) → is_eq o ≡ true → o ≡ Equal
equal Less e = absurd (true≢false (sym e))
equal Equal e = refl
equal Greater e = absurd (true≢false (sym e))

greater : (o : Ordering) → is_eq o ≡ false → is_lt o ≡ false → o ≡ Greater
greater Less e l = absurd (true≢false l)
greater Equal e l = absurd (true≢false e)
greater Greater e l = refl

-- A total order is lawful.
pub lawful_by : {K : Type 0} {R : K → K → Ordering} → IsTotalOrder R → Lawful (eq_by_cmp R) (λ a b. is_lt (R a b))
lawful_by {K} {R} o = record {
  reflexive = λ a. ap is_eq (tied_itself o a);
  apart = λ a b c e f. ap is_lt (o.congr a c b (equal (R a c) e) ∙ o.antisymm c b ∙ ap ordering_reverse (equal (R b c) f));
  total = λ a b n l. ap is_lt (o.antisymm b a ∙ ap ordering_reverse (greater (R a b) n l));
  transitive = λ a b c e f. ap is_lt (o.trans a b c (less (R a b) e) (less (R b c) f));
}

-- A total order is lawful with whatever is the same just where it ties.
pub lawful_as : {K : Type 0} {R : K → K → Ordering} {same : K → K → Bool} → IsTotalOrder R → ((a b : K) → same a b ≡ eq_by_cmp R a b) → Lawful same (λ a b. is_lt (R a b))
lawful_as {K} {R} {same} o t =
    let l = lawful_by o in
    record {
      reflexive = λ a. t a a ∙ l.reflexive a;
      apart = λ a b c e f. l.apart a b c (sym (t a c) ∙ e) (sym (t b c) ∙ f);
      total = λ a b n. l.total a b (sym (t a b) ∙ n);
      transitive = l.transitive;
    }

-- An order by whether two are the same and whether one is before the other.
pub ranked_back : (o : Ordering) → ranked (is_eq o) (is_lt o) ≡ o
ranked_back Less = refl
ranked_back Equal = refl
ranked_back Greater = refl

pub ranked_path : (p q : Names) → ranked (same_path p q) (before_path p q) ≡ order_path p q
ranked_path p q = ap (λ s. ranked s (before_path p q)) (path_ties p q) ∙ ranked_back (order_path p q)

pub lawful_path : Lawful same_path before_path
lawful_path = lawful_as path_total path_ties

mark_ties : (a b : Bool) → beq a b ≡ eq_by_cmp bool_cmp a b
mark_ties true true = refl
mark_ties true false = refl
mark_ties false true = refl
mark_ties false false = refl

pub lawful_mark : Lawful beq (λ a b. is_lt (bool_cmp a b))
lawful_mark = lawful_as bool_cmp_total mark_ties

pub kinds_apart : (same_kind Canonical Canonical ≡ true) × (same_kind Canonical Lexical ≡ false) × (same_kind Lexical Canonical ≡ false) × (same_kind Lexical Lexical ≡ true)
kinds_apart = (refl, refl, refl, refl)

pub kinds_ordered : (order_kind Canonical Canonical ≡ Equal) × (order_kind Canonical Lexical ≡ Less) × (order_kind Lexical Canonical ≡ Greater) × (order_kind Lexical Lexical ≡ Equal)
kinds_ordered = (refl, refl, refl, refl)

pub kind_total : IsTotalOrder order_kind
kind_total = of_kind.total-law

pub kind_ties : (a b : IdentityKind) → same_kind a b ≡ eq_by_cmp order_kind a b
kind_ties = of_kind.matches_eq-law

pub lawful_kind : Lawful same_kind (λ a b. is_lt (order_kind a b))
lawful_kind = lawful_as kind_total kind_ties

pub root_total : IsTotalOrder order_root
root_total = of_root.total-law

pub root_ties : (r q : Root) → same_root r q ≡ eq_by_cmp order_root r q
root_ties = of_root.matches_eq-law

pub lawful_root : Lawful same_root before_root
lawful_root = lawful_as root_total root_ties

pub identity_total : IsTotalOrder order_identity
identity_total = of_identity.total-law

pub identity_ties : (i j : Identity) → same_identity i j ≡ eq_by_cmp order_identity i j
identity_ties = of_identity.matches_eq-law

pub lawful_identity : Lawful same_identity (λ i j. is_lt (order_identity i j))
lawful_identity = lawful_as identity_total identity_ties

pub owned_total : IsTotalOrder order_owned
owned_total = of_owned.total-law

pub owned_ties : (x y : Owned) → same_path x.path y.path && same_root x.root y.root ≡ eq_by_cmp order_owned x y
owned_ties = of_owned.matches_eq-law

pub lawful_owned : Lawful (λ (x y : Owned). same_path x.path y.path && same_root x.root y.root) (λ x y. is_lt (order_owned x y))
lawful_owned = lawful_as owned_total owned_ties

pub share_total : IsTotalOrder order_share
share_total = of_share.total-law

pub share_ties : (x y : Share) → same_root x.root y.root && same_path x.path y.path ≡ eq_by_cmp order_share x y
share_ties = of_share.matches_eq-law

pub lawful_share : Lawful (λ (x y : Share). same_root x.root y.root && same_path x.path y.path) (λ x y. is_lt (order_share x y))
lawful_share = lawful_as share_total share_ties

pub seen_total : IsTotalOrder order_seen
seen_total = of_seen.total-law

pub seen_ties : (x y : Seen) → same_root x.root y.root && same_identity x.identity y.identity ≡ eq_by_cmp order_seen x y
seen_ties = of_seen.matches_eq-law

pub lawful_seen : Lawful (λ (x y : Seen). same_root x.root y.root && same_identity x.identity y.identity) (λ x y. is_lt (order_seen x y))
lawful_seen = lawful_as seen_total seen_ties
