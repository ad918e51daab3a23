-- The state with one part put anew: antt has no record update, so each is written out.
use Rattle.std.specs.Prelude.{ℕ, Bool, List}
use Rattle.paths.specs.Names.{Names}
use Rattle.rules.specs.declared.progress.Phase.{Phase}
use Rattle.rules.specs.Lists.{Table, Set}
use Rattle.rules.specs.Roots.{Root, Identity, Owned, Share, Seen}
use Rattle.rules.specs.State.{State, Guard, Stale, Work}

abbrev pub with_roots : Set Root → State → State
with_roots x s = record { roots = x; logical = s.logical; owners = s.owners; records = s.records; guards = s.guards; guarded = s.guarded; seen = s.seen; work = s.work; removals = s.removals; owner_removals = s.owner_removals; sweep = s.sweep; phase = s.phase; skipped = s.skipped; failures = s.failures; retry_candidates = s.retry_candidates; retry_roots = s.retry_roots; tombstones = s.tombstones; latched = s.latched; reported = s.reported; refresh = s.refresh; stranded = s.stranded; epoch = s.epoch; kind = s.kind; follow = s.follow; cwd = s.cwd }

abbrev pub with_logical : Table Names Identity → State → State
with_logical x s = record { roots = s.roots; logical = x; owners = s.owners; records = s.records; guards = s.guards; guarded = s.guarded; seen = s.seen; work = s.work; removals = s.removals; owner_removals = s.owner_removals; sweep = s.sweep; phase = s.phase; skipped = s.skipped; failures = s.failures; retry_candidates = s.retry_candidates; retry_roots = s.retry_roots; tombstones = s.tombstones; latched = s.latched; reported = s.reported; refresh = s.refresh; stranded = s.stranded; epoch = s.epoch; kind = s.kind; follow = s.follow; cwd = s.cwd }

abbrev pub with_owners : Table Owned ℕ → State → State
with_owners x s = record { roots = s.roots; logical = s.logical; owners = x; records = s.records; guards = s.guards; guarded = s.guarded; seen = s.seen; work = s.work; removals = s.removals; owner_removals = s.owner_removals; sweep = s.sweep; phase = s.phase; skipped = s.skipped; failures = s.failures; retry_candidates = s.retry_candidates; retry_roots = s.retry_roots; tombstones = s.tombstones; latched = s.latched; reported = s.reported; refresh = s.refresh; stranded = s.stranded; epoch = s.epoch; kind = s.kind; follow = s.follow; cwd = s.cwd }

abbrev pub with_records : Table Identity Names → State → State
with_records x s = record { roots = s.roots; logical = s.logical; owners = s.owners; records = x; guards = s.guards; guarded = s.guarded; seen = s.seen; work = s.work; removals = s.removals; owner_removals = s.owner_removals; sweep = s.sweep; phase = s.phase; skipped = s.skipped; failures = s.failures; retry_candidates = s.retry_candidates; retry_roots = s.retry_roots; tombstones = s.tombstones; latched = s.latched; reported = s.reported; refresh = s.refresh; stranded = s.stranded; epoch = s.epoch; kind = s.kind; follow = s.follow; cwd = s.cwd }

abbrev pub with_guards : Table Names Guard → State → State
with_guards x s = record { roots = s.roots; logical = s.logical; owners = s.owners; records = s.records; guards = x; guarded = s.guarded; seen = s.seen; work = s.work; removals = s.removals; owner_removals = s.owner_removals; sweep = s.sweep; phase = s.phase; skipped = s.skipped; failures = s.failures; retry_candidates = s.retry_candidates; retry_roots = s.retry_roots; tombstones = s.tombstones; latched = s.latched; reported = s.reported; refresh = s.refresh; stranded = s.stranded; epoch = s.epoch; kind = s.kind; follow = s.follow; cwd = s.cwd }

abbrev pub with_guarded : Table Root Names → State → State
with_guarded x s = record { roots = s.roots; logical = s.logical; owners = s.owners; records = s.records; guards = s.guards; guarded = x; seen = s.seen; work = s.work; removals = s.removals; owner_removals = s.owner_removals; sweep = s.sweep; phase = s.phase; skipped = s.skipped; failures = s.failures; retry_candidates = s.retry_candidates; retry_roots = s.retry_roots; tombstones = s.tombstones; latched = s.latched; reported = s.reported; refresh = s.refresh; stranded = s.stranded; epoch = s.epoch; kind = s.kind; follow = s.follow; cwd = s.cwd }

abbrev pub with_seen : Set Seen → State → State
with_seen x s = record { roots = s.roots; logical = s.logical; owners = s.owners; records = s.records; guards = s.guards; guarded = s.guarded; seen = x; work = s.work; removals = s.removals; owner_removals = s.owner_removals; sweep = s.sweep; phase = s.phase; skipped = s.skipped; failures = s.failures; retry_candidates = s.retry_candidates; retry_roots = s.retry_roots; tombstones = s.tombstones; latched = s.latched; reported = s.reported; refresh = s.refresh; stranded = s.stranded; epoch = s.epoch; kind = s.kind; follow = s.follow; cwd = s.cwd }

abbrev pub with_work : List Work → State → State
with_work x s = record { roots = s.roots; logical = s.logical; owners = s.owners; records = s.records; guards = s.guards; guarded = s.guarded; seen = s.seen; work = x; removals = s.removals; owner_removals = s.owner_removals; sweep = s.sweep; phase = s.phase; skipped = s.skipped; failures = s.failures; retry_candidates = s.retry_candidates; retry_roots = s.retry_roots; tombstones = s.tombstones; latched = s.latched; reported = s.reported; refresh = s.refresh; stranded = s.stranded; epoch = s.epoch; kind = s.kind; follow = s.follow; cwd = s.cwd }

abbrev pub with_removals : List Names → State → State
with_removals x s = record { roots = s.roots; logical = s.logical; owners = s.owners; records = s.records; guards = s.guards; guarded = s.guarded; seen = s.seen; work = s.work; removals = x; owner_removals = s.owner_removals; sweep = s.sweep; phase = s.phase; skipped = s.skipped; failures = s.failures; retry_candidates = s.retry_candidates; retry_roots = s.retry_roots; tombstones = s.tombstones; latched = s.latched; reported = s.reported; refresh = s.refresh; stranded = s.stranded; epoch = s.epoch; kind = s.kind; follow = s.follow; cwd = s.cwd }

abbrev pub with_owner_removals : List Share → State → State
with_owner_removals x s = record { roots = s.roots; logical = s.logical; owners = s.owners; records = s.records; guards = s.guards; guarded = s.guarded; seen = s.seen; work = s.work; removals = s.removals; owner_removals = x; sweep = s.sweep; phase = s.phase; skipped = s.skipped; failures = s.failures; retry_candidates = s.retry_candidates; retry_roots = s.retry_roots; tombstones = s.tombstones; latched = s.latched; reported = s.reported; refresh = s.refresh; stranded = s.stranded; epoch = s.epoch; kind = s.kind; follow = s.follow; cwd = s.cwd }

abbrev pub with_sweep : List Stale → State → State
with_sweep x s = record { roots = s.roots; logical = s.logical; owners = s.owners; records = s.records; guards = s.guards; guarded = s.guarded; seen = s.seen; work = s.work; removals = s.removals; owner_removals = s.owner_removals; sweep = x; phase = s.phase; skipped = s.skipped; failures = s.failures; retry_candidates = s.retry_candidates; retry_roots = s.retry_roots; tombstones = s.tombstones; latched = s.latched; reported = s.reported; refresh = s.refresh; stranded = s.stranded; epoch = s.epoch; kind = s.kind; follow = s.follow; cwd = s.cwd }

abbrev pub with_phase : Phase → State → State
with_phase x s = record { roots = s.roots; logical = s.logical; owners = s.owners; records = s.records; guards = s.guards; guarded = s.guarded; seen = s.seen; work = s.work; removals = s.removals; owner_removals = s.owner_removals; sweep = s.sweep; phase = x; skipped = s.skipped; failures = s.failures; retry_candidates = s.retry_candidates; retry_roots = s.retry_roots; tombstones = s.tombstones; latched = s.latched; reported = s.reported; refresh = s.refresh; stranded = s.stranded; epoch = s.epoch; kind = s.kind; follow = s.follow; cwd = s.cwd }

abbrev pub with_skipped : Set Names → State → State
with_skipped x s = record { roots = s.roots; logical = s.logical; owners = s.owners; records = s.records; guards = s.guards; guarded = s.guarded; seen = s.seen; work = s.work; removals = s.removals; owner_removals = s.owner_removals; sweep = s.sweep; phase = s.phase; skipped = x; failures = s.failures; retry_candidates = s.retry_candidates; retry_roots = s.retry_roots; tombstones = s.tombstones; latched = s.latched; reported = s.reported; refresh = s.refresh; stranded = s.stranded; epoch = s.epoch; kind = s.kind; follow = s.follow; cwd = s.cwd }

abbrev pub with_failures : Table Names ℕ → State → State
with_failures x s = record { roots = s.roots; logical = s.logical; owners = s.owners; records = s.records; guards = s.guards; guarded = s.guarded; seen = s.seen; work = s.work; removals = s.removals; owner_removals = s.owner_removals; sweep = s.sweep; phase = s.phase; skipped = s.skipped; failures = x; retry_candidates = s.retry_candidates; retry_roots = s.retry_roots; tombstones = s.tombstones; latched = s.latched; reported = s.reported; refresh = s.refresh; stranded = s.stranded; epoch = s.epoch; kind = s.kind; follow = s.follow; cwd = s.cwd }

abbrev pub with_retry_candidates : Set Share → State → State
with_retry_candidates x s = record { roots = s.roots; logical = s.logical; owners = s.owners; records = s.records; guards = s.guards; guarded = s.guarded; seen = s.seen; work = s.work; removals = s.removals; owner_removals = s.owner_removals; sweep = s.sweep; phase = s.phase; skipped = s.skipped; failures = s.failures; retry_candidates = x; retry_roots = s.retry_roots; tombstones = s.tombstones; latched = s.latched; reported = s.reported; refresh = s.refresh; stranded = s.stranded; epoch = s.epoch; kind = s.kind; follow = s.follow; cwd = s.cwd }

abbrev pub with_retry_roots : Set Root → State → State
with_retry_roots x s = record { roots = s.roots; logical = s.logical; owners = s.owners; records = s.records; guards = s.guards; guarded = s.guarded; seen = s.seen; work = s.work; removals = s.removals; owner_removals = s.owner_removals; sweep = s.sweep; phase = s.phase; skipped = s.skipped; failures = s.failures; retry_candidates = s.retry_candidates; retry_roots = x; tombstones = s.tombstones; latched = s.latched; reported = s.reported; refresh = s.refresh; stranded = s.stranded; epoch = s.epoch; kind = s.kind; follow = s.follow; cwd = s.cwd }

abbrev pub with_tombstones : Set Names → State → State
with_tombstones x s = record { roots = s.roots; logical = s.logical; owners = s.owners; records = s.records; guards = s.guards; guarded = s.guarded; seen = s.seen; work = s.work; removals = s.removals; owner_removals = s.owner_removals; sweep = s.sweep; phase = s.phase; skipped = s.skipped; failures = s.failures; retry_candidates = s.retry_candidates; retry_roots = s.retry_roots; tombstones = x; latched = s.latched; reported = s.reported; refresh = s.refresh; stranded = s.stranded; epoch = s.epoch; kind = s.kind; follow = s.follow; cwd = s.cwd }

abbrev pub with_latched : Bool → State → State
with_latched x s = record { roots = s.roots; logical = s.logical; owners = s.owners; records = s.records; guards = s.guards; guarded = s.guarded; seen = s.seen; work = s.work; removals = s.removals; owner_removals = s.owner_removals; sweep = s.sweep; phase = s.phase; skipped = s.skipped; failures = s.failures; retry_candidates = s.retry_candidates; retry_roots = s.retry_roots; tombstones = s.tombstones; latched = x; reported = s.reported; refresh = s.refresh; stranded = s.stranded; epoch = s.epoch; kind = s.kind; follow = s.follow; cwd = s.cwd }

abbrev pub with_reported : Bool → State → State
with_reported x s = record { roots = s.roots; logical = s.logical; owners = s.owners; records = s.records; guards = s.guards; guarded = s.guarded; seen = s.seen; work = s.work; removals = s.removals; owner_removals = s.owner_removals; sweep = s.sweep; phase = s.phase; skipped = s.skipped; failures = s.failures; retry_candidates = s.retry_candidates; retry_roots = s.retry_roots; tombstones = s.tombstones; latched = s.latched; reported = x; refresh = s.refresh; stranded = s.stranded; epoch = s.epoch; kind = s.kind; follow = s.follow; cwd = s.cwd }

abbrev pub with_refresh : Bool → State → State
with_refresh x s = record { roots = s.roots; logical = s.logical; owners = s.owners; records = s.records; guards = s.guards; guarded = s.guarded; seen = s.seen; work = s.work; removals = s.removals; owner_removals = s.owner_removals; sweep = s.sweep; phase = s.phase; skipped = s.skipped; failures = s.failures; retry_candidates = s.retry_candidates; retry_roots = s.retry_roots; tombstones = s.tombstones; latched = s.latched; reported = s.reported; refresh = x; stranded = s.stranded; epoch = s.epoch; kind = s.kind; follow = s.follow; cwd = s.cwd }

abbrev pub with_stranded : Bool → State → State
with_stranded x s = record { roots = s.roots; logical = s.logical; owners = s.owners; records = s.records; guards = s.guards; guarded = s.guarded; seen = s.seen; work = s.work; removals = s.removals; owner_removals = s.owner_removals; sweep = s.sweep; phase = s.phase; skipped = s.skipped; failures = s.failures; retry_candidates = s.retry_candidates; retry_roots = s.retry_roots; tombstones = s.tombstones; latched = s.latched; reported = s.reported; refresh = s.refresh; stranded = x; epoch = s.epoch; kind = s.kind; follow = s.follow; cwd = s.cwd }

abbrev pub with_epoch : ℕ → State → State
with_epoch x s = record { roots = s.roots; logical = s.logical; owners = s.owners; records = s.records; guards = s.guards; guarded = s.guarded; seen = s.seen; work = s.work; removals = s.removals; owner_removals = s.owner_removals; sweep = s.sweep; phase = s.phase; skipped = s.skipped; failures = s.failures; retry_candidates = s.retry_candidates; retry_roots = s.retry_roots; tombstones = s.tombstones; latched = s.latched; reported = s.reported; refresh = s.refresh; stranded = s.stranded; epoch = x; kind = s.kind; follow = s.follow; cwd = s.cwd }
