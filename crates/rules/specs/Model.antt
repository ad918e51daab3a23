-- What a work of the code stands for.
use Rattle.std.specs.Prelude.{ℕ}
use Rattle.paths.specs.Names.{Names}
use Rattle.rules.specs.Roots.{Root}
use Rattle.rules.specs.State.{Work, guard_work, root_work, candidate_work, scan_work, probe_work}
use Rattle.rules.specs.declared.work.Work.{Work as WorkValue}
use Rattle.rules.specs.declared.work.WorkKind.{WorkKind}
use Rattle.rules.specs.declared.work.WorkKind.TheVariants.{Guard, Root as RootKind, Candidate, Scan, Probe}

-- A work by its kind, with what stands beside it.
abbrev pub work_by : WorkKind → Root → Names → ℕ → Work
work_by Guard r p k = guard_work r
work_by RootKind r p k = root_work r
work_by Candidate r p k = candidate_work r p k
work_by Scan r p k = scan_work r p k
work_by Probe r p k = probe_work p

abbrev pub work : WorkValue → Work
work w = work_by w.kind w.root w.path w.retries
