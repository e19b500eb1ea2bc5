use Rattle.std.proofs.Common.{arith}
use Rattle.mt_io.proofs.Written.{front_more}
use Rattle.mt_io.proofs.whole_write.put_all.Goals as goal

pub loop-rest-preserved : goal.loop-rest-preserved
loop-rest-preserved g c = record {
  written = front_more _ _ _ c.args.bytes.now c.loop-rest.rest.now c.in-Ok.count c.loop-rest.invariant.written c.in-Ok.ensures.bytes;
  later = omega (arith, c.loop-rest.invariant.later, c.write_some.ensures.cause.later);
  kept = g.met.K.Sink.writes_on _ _ _ c.loop-rest.invariant.kept c.write_some.ensures.kept;
}
