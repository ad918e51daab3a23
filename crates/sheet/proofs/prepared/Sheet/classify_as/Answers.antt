use Rattle.std.proofs.Common.{rules, ◌≡◌, false}
use Rattle.sheet.specs.Classes.{is_link}
use Rattle.sheet.proofs.Kept.{entered_unlinked}
use Rattle.sheet.proofs.prepared.Sheet.classify_as.Goals as goal

pub invariant_of-self : goal.invariant_of-self
invariant_of-self c =
    let l : is_link c.args.class ≡ false = search rules in
    record { no_links = rw c.insert.ensures.items (entered_unlinked 512 c.args.path.now c.args.class c.args.self.now.followed l c.args.self.now.no_links) }
