use Rattle.mt_load.proofs.SummaryLine.{line_is}
use Rattle.mt_load.proofs.summary.write_summary.Goals as goal

pub returns : goal.returns
returns c =
    line_is c.args.summary.now c.new-line.result.items c.put_number.new.line.items c.put_number-2.new.line.items c.put_number-3.new.line.items
    c.put_number-4.new.line.items c.put_number-5.new.line.items c.extend_from_slice.new.self.items
    c.new-line.ensures.items c.in_ok-put_number.ensures.put c.in_ok-put_number-2.ensures.put c.in_ok-put_number-3.ensures.put c.in_ok-put_number-4.ensures.put
    c.in_ok-put_number-5.ensures.put c.in_ok-extend_from_slice.ensures.items
