use Rattle.std.proofs.Common.{refl}
use Rattle.mt_ws.proofs.opening.read_kind.Goals as goal

pub returns-in-Ok-clause-reads : goal.returns-in-Ok-clause-reads
returns-in-Ok-clause-reads g c = rw c.in-Lines.is (c.read.new.self, refl, c.in-Ok.ensures.bytes)

pub returns-in-Err-clause-reads : goal.returns-in-Err-clause-reads
returns-in-Err-clause-reads g c = rw c.in-Lines.is (c.read.new.self, refl, c.in-Err.ensures.bytes)

pub returns-in-Web-clause-reads : goal.returns-in-Web-clause-reads
returns-in-Web-clause-reads g c = rw c.in-Web.is (c.read_some.new.self, refl, c.read_some.ensures.reads)
