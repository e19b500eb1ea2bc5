use Rattle.std.proofs.Common.{unwrap_or, ◌∙◌}
use Rattle.mt_read.specs.declared.request.Request.TheVariants as request
use Rattle.mt_read.proofs.ReadingLemmas.{asked, ◌▹◌}
use Rattle.mt_read.proofs.areas.area_line.Goals as goal

pub returns : goal.returns
returns c =
    asked (c.fix_name-name.ensures ▹ c.in_ok-corners.ensures ▹ c.count-bottom.ensures.reads ▹ c.count-top.ensures.reads
    ▹ c.count_or_zero-from.ensures ▹ c.count_or_none-to.ensures) (λ ms e. (λ i. request.Area (record {
      name = c.fix_name-name.result;
      corners = c.in_ok-corners.corners;
      bottom = c.count-bottom.result;
      top = c.count-top.result;
      from = c.count_or_zero-from.result;
      to = c.unwrap_or.ensures i;
    })) ∙ (λ i. request.Area (record {
      name = (e i).0;
      corners = (e i).1.0;
      bottom = (e i).1.1.0;
      top = (e i).1.1.1.0;
      from = (e i).1.1.1.1.0;
      to = unwrap_or (e i).1.1.1.1.1 10014400;
    })))
