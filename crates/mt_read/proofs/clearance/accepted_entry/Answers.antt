use Rattle.std.proofs.Common.{◌∙◌}
use Rattle.mt_base.specs.declared.command.Command.TheVariants as command
use Rattle.mt_read.specs.declared.key.Key.TheVariants as key
use Rattle.mt_read.proofs.ReadingLemmas.{asked, counted, ◌▹◌}
use Rattle.mt_read.proofs.clearance.accepted_entry.Goals as goal

pub returns : goal.returns
returns c =
    asked (c.read_clearance-call.ensures ▹ c.count-probed.ensures.reads) (λ ms e i. command.Accept (e i).0.call (e i).0.clearance (counted key.Eff ms
    _ _ c.unwrap_or.ensures (λ j. (e j).0.eff) i) ((c.from.ensures ∙ (λ j. (e j).1)) i))
