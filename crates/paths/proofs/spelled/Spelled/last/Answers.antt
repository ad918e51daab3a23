use Rattle.std.proofs.Common.{◌+◌, drop, ap, ◌∙◌, arith}
use Rattle.std.proofs.lemmas.List.{take_rest}
use Rattle.paths.proofs.Lasts.{last_is}
use Rattle.paths.proofs.spelled.Spelled.last.Goals as goal

pub returns : goal.returns
returns g c =
    let b = c.bytes.ensures in
    let l = last_is c.args.self.now _ c.in_ok-k.k b.good c.in_ok-k.ensures (take_rest c.bytes.result.now (c.in_ok-k.k + 1) ∙ ap (drop (c.in_ok-k.k + 1)) b.value) in
    record { value = l.0; named = (l.1, omega (arith, l.2, b.within)) }
