-- The state that the inner struct stands for.
use Rattle.std.specs.Prelude.{map}
use Rattle.rules.specs.State.{State}
use Rattle.rules.specs.Model.{work}
use Rattle.state.specs.declared.inner.Inner.TheInside.{Inside}

-- Its own fields, each work by its kind; what is gathered or about to be closed is no part of the state.
unfoldable pub model : Inside → State
model s = record {
  roots = s.roots;
  logical = s.logical;
  owners = s.owners;
  records = s.records;
  guards = s.guards;
  guarded = s.guarded;
  seen = s.seen;
  work = map work s.work;
  removals = s.removals;
  owner_removals = s.owner_removals;
  sweep = s.sweep;
  phase = s.phase;
  skipped = s.skipped;
  failures = s.failures;
  retry_candidates = s.retry_candidates;
  retry_roots = s.retry_roots;
  tombstones = s.tombstones;
  latched = s.latched;
  reported = s.reported;
  refresh = s.refresh;
  stranded = s.stranded;
  epoch = s.epoch;
  kind = s.kind;
  follow = s.follow;
  cwd = s.cwd;
}
