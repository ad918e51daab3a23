use Rattle.std.proofs.Common.{◌≡◌, length, drop}
use Rattle.paths.proofs.bytes.order.Given as goal
use Rattle.paths.specs.Bytes.{keyed}

abbrev pub invariant-loop-a : goal.invariant-loop-a
invariant-loop-a l = keyed (drop (length l.yielded) l.t) (drop (length l.yielded) l.u) ≡ keyed l.t l.u
