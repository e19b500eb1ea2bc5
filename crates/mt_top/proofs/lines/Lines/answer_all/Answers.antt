use Rattle.std.proofs.Common.{Some, refl, ap, arith, []}
use Rattle.std.proofs.Math.Nat.{le_trans}
use Rattle.mt_io.proofs.Known.{appends_none}
use Rattle.mt_lines.proofs.Closing.{closed, closed_short, stays_open}
use Rattle.mt_lines.proofs.Streams.{untold}
use Rattle.mt_lines.proofs.Turning.{begins}
use Rattle.mt_write.specs.Reply.{reply_text}
use Rattle.mt_top.specs.Private.Lines.{is_last}
use Rattle.mt_top.specs.Script.{NothingFollows}
use Rattle.mt_top.proofs.Turning.{closed_open}
use Rattle.mt_world.specs.World.{opening_world}
use Rattle.mt_top.proofs.lines.Lines.answer_all.Goals as goal

pub loop-ending-init : goal.loop-ending-init
loop-ending-init g c = rw (c.requires.first.0, c.requires.first.1, c.requires.none) (record {
  so_far = ([], appends_none _, begins (is_last c.args.until_begun) g.A.Answers.replied NothingFollows opening_world _);
  sound = refl;
  bound = omega arith;
  setting = record { unbegun = λ until goes. refl; empty = λ until begun. refl };
  read = omega arith;
  written = omega arith;
  reads = g.met.S.Source.reads_to_itself _;
  writes = g.met.K.Sink.writes_to_itself _;
})

pub loop-ending-preserved : goal.loop-ending-preserved
loop-ending-preserved g c =
    let so_far = c.loop-ending.invariant in
    let turn = c.in_default.ensures in
    record {
      so_far = stays_open reply_text (is_last c.args.until_begun) g.A.Answers.replied NothingFollows opening_world _ _ _ _ _ _ _ _ _ _ _ _ so_far.so_far turn.turned;
      sound = turn.rises.2;
      bound = turn.rises.1;
      setting = turn.setting;
      read = le_trans so_far.read turn.input.fault.later;
      written = le_trans so_far.written turn.output.fault.later;
      reads = g.met.S.Source.reads_on _ _ _ so_far.reads turn.input.kept;
      writes = g.met.K.Sink.writes_on _ _ _ so_far.writes turn.output.kept;
    }

pub loop-ending-smaller : goal.loop-ending-smaller
loop-ending-smaller g c = omega (arith, c.in_default.ensures.rises.0, c.in_default.ensures.rises.1)

-- what waited was written
pub returns-in-Ok-clause-means : goal.returns-in-Ok-clause-means
returns-in-Ok-clause-means g c =
    let (sent, first, so_far) = c.loop-ending.invariant.so_far in
    closed reply_text (is_last c.args.until_begun) g.A.Answers.replied NothingFollows opening_world _ _ _ _ _ _ sent _ _ _ _ first (c.in-Some.ensures.turned _ sent so_far) c.in-Ok.ensures.ok

pub returns-in-Ok-clause-setting : goal.returns-in-Ok-clause-setting
returns-in-Ok-clause-setting g c = c.in-Some.ensures.setting

pub returns-in-Ok-clause-input : goal.returns-in-Ok-clause-input
returns-in-Ok-clause-input g c = record {
  fault = record {
    cause = λ is. omega (arith, c.in-Some.ensures.input.fault.cause (ap Some is), c.loop-ending.invariant.read);
    later = le_trans c.loop-ending.invariant.read c.turn.ensures.input.fault.later;
  };
  kept = g.met.S.Source.reads_on _ _ _ c.loop-ending.invariant.reads c.turn.ensures.input.kept;
}

pub returns-in-Ok-clause-output : goal.returns-in-Ok-clause-output
returns-in-Ok-clause-output g c = record {
  fault = record {
    cause = λ is. omega (arith, c.in-Some.ensures.output.fault.cause (ap Some is), c.loop-ending.invariant.written, c.flush.ensures.cause.later);
    later = omega (arith, c.loop-ending.invariant.written, c.turn.ensures.output.fault.later, c.flush.ensures.cause.later);
  };
  kept = g.met.K.Sink.writes_on _ _ _ (g.met.K.Sink.writes_on _ _ _ c.loop-ending.invariant.writes c.turn.ensures.output.kept) c.flush.ensures.kept;
}

-- what waited was written in part
pub returns-in-Err-clause-means : goal.returns-in-Err-clause-means
returns-in-Err-clause-means g c =
    let (sent, first, so_far) = c.loop-ending.invariant.so_far in
    closed_short reply_text (is_last c.args.until_begun) g.A.Answers.replied NothingFollows opening_world _ _ _ _ _ _ sent _ _ _ c.in-Some.ending first (c.in-Some.ensures.turned _ sent so_far) c.in-Err.ensures.err

pub returns-in-Err-clause-setting : goal.returns-in-Err-clause-setting
returns-in-Err-clause-setting g c = closed_open c.in-Some.ensures.setting

pub returns-in-Err-clause-input : goal.returns-in-Err-clause-input
returns-in-Err-clause-input g c = record {
  fault = untold (le_trans c.loop-ending.invariant.read c.turn.ensures.input.fault.later) (λ is. cc);
  kept = g.met.S.Source.reads_on _ _ _ c.loop-ending.invariant.reads c.turn.ensures.input.kept;
}

pub returns-in-Err-clause-output : goal.returns-in-Err-clause-output
returns-in-Err-clause-output g c =
    let failed = rw c.in-Err.is at c.flush.ensures.cause.failed in
    record {
      fault = record {
        cause = λ is. omega (arith, failed, c.loop-ending.invariant.written, c.turn.ensures.output.fault.later);
        later = omega (arith, c.loop-ending.invariant.written, c.turn.ensures.output.fault.later, c.flush.ensures.cause.later);
      };
      kept = g.met.K.Sink.writes_on _ _ _ (g.met.K.Sink.writes_on _ _ _ c.loop-ending.invariant.writes c.turn.ensures.output.kept) c.flush.ensures.kept;
    }
