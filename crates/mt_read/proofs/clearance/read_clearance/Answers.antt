use Rattle.std.proofs.Common.{◌∙◌}
use Rattle.mt_read.specs.Table.{clearance_to}
use Rattle.mt_read.proofs.ReadingLemmas.{asked, ◌▹◌}
use Rattle.mt_read.proofs.clearance.read_clearance.Goals as goal

pub returns : goal.returns
returns c =
    asked (c.callsign-call.ensures ▹ c.level-level.ensures ▹ c.direct-direct.ensures ▹ c.count_or_none-eff.ensures) (λ ms e i. record {
      call = (e i).0;
      clearance = (c.clearance_to.ensures ∙ (λ j. clearance_to (e j).1.1.0 (e j).1.0)) i;
      eff = (e i).1.1.1;
    })
