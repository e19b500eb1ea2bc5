use Rattle.std.proofs.Common.{arith}
use Rattle.mt_lines.proofs.Idle.{idle_of}
use Rattle.mt_lines.proofs.Streams.{behind, untold}
use Rattle.mt_lines.proofs.Turning.{behind_ready, cut_ready}
use Rattle.mt_top.specs.Private.Lines.{is_last}
use Rattle.mt_top.specs.Script.{NothingFollows}
use Rattle.mt_top.proofs.Turning.{still_open}
use Rattle.mt_world.specs.World.{opening_world}
use Rattle.mt_top.proofs.lines.Lines.turn.Goals as goal

pub returns-in-Ok-clause-turned : goal.returns-in-Ok-clause-turned
returns-in-Ok-clause-turned g c = λ before sent so_far.
    behind_ready (is_last c.args.until_begun) g.A.Answers.replied NothingFollows opening_world before _ _ sent _ _ _ _ _ _ _ _ _ _ _ c.in-Ok.ensures.ok c.answer_next.ensures.turned so_far

pub returns-in-Err-clause-turned : goal.returns-in-Err-clause-turned
returns-in-Err-clause-turned g c = λ before sent so_far.
    cut_ready (is_last c.args.until_begun) g.A.Answers.replied NothingFollows opening_world before (g.S.Source.left c.args.input.now) (g.S.Source.left c.args.input.now) sent
    c.args.self.now.reader c.args.self.now.reader _ _ _ _ _ c.in-Err.ensures.err c.in-Err.ensures.lost c.has_line.ensures.bound so_far

-- a line was read and answered
pub answer_next-requires-clause-idle : goal.answer_next-requires-clause-idle
answer_next-requires-clause-idle g c κs within = idle_of c.has_line.result _ _ c.has_line.ensures.ahead c.in-Ok.ensures.idle

pub returns-in-Ok-clause-rises : goal.returns-in-Ok-clause-rises
returns-in-Ok-clause-rises g c = c.answer_next.ensures.rises

pub returns-in-Ok-clause-setting : goal.returns-in-Ok-clause-setting
returns-in-Ok-clause-setting g c = c.answer_next.ensures.setting

pub returns-in-Ok-clause-input : goal.returns-in-Ok-clause-input
returns-in-Ok-clause-input g c = c.answer_next.ensures.input

pub returns-in-Ok-clause-output : goal.returns-in-Ok-clause-output
returns-in-Ok-clause-output g c = record {
  fault = behind c.ready.ensures.cause.later c.answer_next.ensures.output.fault;
  kept = g.met.K.Sink.writes_on _ _ _ c.ready.ensures.kept c.answer_next.ensures.output.kept;
}

-- the output failed
pub returns-in-Err-clause-setting : goal.returns-in-Err-clause-setting
returns-in-Err-clause-setting g c = still_open c.requires.setting

pub returns-in-Err-clause-input : goal.returns-in-Err-clause-input
returns-in-Err-clause-input g c = record { fault = untold (omega arith) (λ is. cc); kept = g.met.S.Source.reads_to_itself _ }

pub returns-in-Err-clause-output : goal.returns-in-Err-clause-output
returns-in-Err-clause-output g c = record {
  fault = record { cause = λ is. rw c.in-Err.is at c.ready.ensures.cause.failed; later = c.ready.ensures.cause.later };
  kept = c.ready.ensures.kept;
}
