-- No public contract names these: they are of private steps and of proofs.
use Rattle.std.specs.Prelude.{refl}
use Rattle.std.proofs.Common.{◌∙◌, arith}
use Rattle.mt_io.specs.Private.Calls.{went_none, went_on, unlisted_first, unlisted_others}
use Rattle.mt_io.specs.declared.mem_sink.MemSink.{MemSink}
use Rattle.mt_io.specs.MemSink.{HasWritten}

-- `written_none`, `written_on`: no write, and two runs of writes, keep what writes keep
pub written_none : (sink : MemSink) → HasWritten sink sink
written_none sink = record {
  same_room = refl;
  same_most = refl;
  grows = omega arith;
  calls = went_none sink.calls;
  quiet = λ lt none. refl;
}

pub written_on : (a b c : MemSink) → HasWritten a b → HasWritten b c → HasWritten a c
written_on a b c ab bc = record {
  same_room = bc.same_room ∙ ab.same_room;
  same_most = bc.same_most ∙ ab.same_most;
  grows = omega arith;
  calls = went_on a.calls b.calls c.calls ab.calls bc.calls;
  quiet = λ lt none. bc.quiet lt (unlisted_others a.calls b.calls c.calls ab.calls none)
      ∙ ab.quiet (omega arith) (unlisted_first a.calls b.calls c.calls bc.calls none);
}
