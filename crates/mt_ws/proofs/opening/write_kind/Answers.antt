use Rattle.std.proofs.Common.{refl}
use Rattle.mt_ws.proofs.Opened.{keeps_held}
use Rattle.mt_ws.proofs.opening.write_kind.Goals as goal

pub returns-in-Ok-eq0-clause-writes : goal.returns-in-Ok-eq0-clause-writes
returns-in-Ok-eq0-clause-writes g c = rw c.in-Lines.is (
  c.write_some.new.self,
  refl,
  c.in-Ok-eq0.ensures.back,
  keeps_held _ _ c.args.piece.now c.in-Ok-eq0.field-0 c.in-Ok-eq0.field-0-test c.in-Ok-eq0.ensures.bytes,
)

pub returns-in-Ok-clause-writes : goal.returns-in-Ok-clause-writes
returns-in-Ok-clause-writes g c = rw c.in-Lines.is (c.write_some.new.self, refl, c.in-Ok.ensures.back, c.in-Ok.ensures.bytes)

pub returns-in-Err-clause-writes : goal.returns-in-Err-clause-writes
returns-in-Err-clause-writes g c = rw c.in-Lines.is (c.write_some.new.self, refl, c.in-Err.ensures.back, c.in-Err.ensures.bytes)

pub returns-in-Web-clause-writes : goal.returns-in-Web-clause-writes
returns-in-Web-clause-writes g c = rw c.in-Web.is (c.write_some-in-Web.new.self, refl, c.write_some-in-Web.ensures.writes)
