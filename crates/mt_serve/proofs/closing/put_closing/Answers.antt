use Rattle.mt_serve.proofs.ClosingLine.{line_is}
use Rattle.mt_serve.proofs.closing.put_closing.Goals as goal

pub returns-clause-put : goal.returns-clause-put
returns-clause-put c =
    line_is c.args.closing.now c.args.line.now.items c.put_number.new.line.items c.put_number-2.new.line.items c.put_number-3.new.line.items
    c.put_number-4.new.line.items c.put_number-5.new.line.items c.put_number-6.new.line.items c.extend_from_slice.new.self.items
    c.in_ok-put_number.ensures.put c.in_ok-put_number-2.ensures.put c.in_ok-put_number-3.ensures.put c.in_ok-put_number-4.ensures.put
    c.in_ok-put_number-5.ensures.put c.in_ok-put_number-6.ensures.put c.in_ok-extend_from_slice.ensures.items
