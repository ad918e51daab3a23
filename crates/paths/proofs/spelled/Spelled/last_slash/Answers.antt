use Rattle.std.proofs.Common.{rules}
use Rattle.paths.proofs.Lasts.{slash_found}
use Rattle.paths.proofs.spelled.Spelled.last_slash.Goals as goal

pub returns : goal.returns
returns g c =
    slash_found c.args.self.now c.bytes.result.now c.rposition.result c.bytes.ensures.good c.bytes.ensures.value
    (λ e. search rules)
    (λ i e. (search rules, search rules, search rules))
