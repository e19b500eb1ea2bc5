use Rattle.mt_ws.proofs.FirstLines.{same_before_return}
use Rattle.mt_ws.proofs.beginning.is_request_line_before_return.Goals as goal

pub returns-in-Some : goal.returns-in-Some
returns-in-Some c =
    let line_is = rw c.as_slice.ensures at c.in-Some.ensures in (
      (λ t. (c.in-Some.text.now, line_is, c.is_request_line.ensures.0 t)),
      λ is. c.is_request_line.ensures.1 (rw (← same_before_return c.args.line.now c.in-Some.text.now is.0 line_is is.1) is.2),
    )
