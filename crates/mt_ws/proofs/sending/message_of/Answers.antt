use Rattle.mt_ws.proofs.Cutting.{text_line, binary_line}
use Rattle.mt_ws.proofs.sending.message_of.Goals as goal

pub returns-in_ok-text-in-Ok : goal.returns-in_ok-text-in-Ok
returns-in_ok-text-in-Ok c = rw (text_line c.args.line.now c.in-Ok.ensures.cases.1, ← c.in-Ok.ensures.cases.0) c.in_ok-text-in-Ok.ensures

pub returns-in_ok-binary-in-Err : goal.returns-in_ok-binary-in-Err
returns-in_ok-binary-in-Err c = rw (binary_line c.args.line.now c.in-Err.ensures.cases.0) c.in_ok-binary-in-Err.ensures
