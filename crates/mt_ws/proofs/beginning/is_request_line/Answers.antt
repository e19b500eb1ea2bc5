use Rattle.std.proofs.Common.{arith}
use Rattle.mt_ws.proofs.FirstLines.{request_by_end, version_at_end}
use Rattle.mt_ws.proofs.beginning.is_request_line.Goals as goal

pub returns : goal.returns
returns c = (
  (λ t. request_by_end c.args.line.now (rw c.split_at.ensures.back at c.is_version.ensures.0 t)),
  λ is. c.is_version.ensures.1 (rw c.split_at.ensures.back (version_at_end c.args.line.now (omega arith) is)),
)
