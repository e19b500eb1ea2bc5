use Rattle.mt_base.specs.declared.command.Command.TheVariants as command
use Rattle.mt_read.proofs.ReadingLemmas.{asked, kept_in, ◌▹◌}
use Rattle.mt_read.proofs.feed.report_line.Goals as goal

pub returns : goal.returns
returns c =
    asked (c.callsign-call.ensures ▹ c.count-at.ensures.reads ▹ c.whole-x.ensures ▹ c.whole-y.ensures ▹ c.whole-z.ensures) (λ ms e i. command.Report
    (e i).0 (record {
      at = (e i).1.0;
      x = kept_in _ _ (record { sfits = c.whole-x.type_inv }) (λ j. (e j).1.1.0) i;
      y = kept_in _ _ (record { sfits = c.whole-y.type_inv }) (λ j. (e j).1.1.1.0) i;
      z = kept_in _ _ (record { sfits = c.whole-z.type_inv }) (λ j. (e j).1.1.1.1) i;
    }))
