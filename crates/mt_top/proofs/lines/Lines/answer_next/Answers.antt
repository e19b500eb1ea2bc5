use Rattle.std.proofs.Common.{◌&&◌, Err, Some, false, ap, sym, ◌∙◌, arith}
use Rattle.mt_write.specs.declared.reply.Reply.TheVariants as replies
use Rattle.mt_lines.specs.Ending.{ending_after}
use Rattle.mt_lines.proofs.Endings.{failed, no_read, no_write, read_fault}
use Rattle.mt_lines.proofs.Streams.{untold}
use Rattle.mt_lines.proofs.Turning.{at_end, at_fault, at_given, one_more}
use Rattle.mt_top.specs.Private.Lines.{is_last}
use Rattle.mt_top.specs.Script.{NothingFollows}
use Rattle.mt_top.proofs.Turning.{given_open, last_given, long_goes_on, none_open, nothing_more, still_open, unbegun}
use Rattle.mt_world.specs.World.{opening_world}
use Rattle.mt_top.proofs.lines.Lines.answer_next.Goals as goal

-- a line that was read
pub returns-in-Ok-Text-clause-turned : goal.returns-in-Ok-Text-clause-turned
returns-in-Ok-Text-clause-turned g c =
    let line = rw (c.in-Ok-Text.is, c.in-Ok-Text.field-0-is) at c.next.follows.holds-at-none in
    let next = g.A.Answers.world c.answer-reply.new.self in
    λ before sent so_far. rw (c.after.ensures, c.is_set_up.ensures) (at_given (is_last c.args.until_begun) g.A.Answers.replied NothingFollows opening_world before _ _ sent _ _ _ _ _ _ _ c.in-Ok-Text.line.now
    c.answer-reply.result next so_far line.1
    (λ other for. c.reply_law.ensures.given _ _ c.in-Ok-Text.line.now c.answer-reply.result other c.answer-reply.ensures.replied for (λ _. line.0))
    c.give-given.result (c.args.until_begun && next.begun) next c.give-given.ensures.given c.give-given.ensures.lost
    (last_given c.args.until_begun next c.answer-reply.result (λ until. (c.answer-reply.ensures.begins (unbegun c.requires.setting until)).0))
    (nothing_more c.answer-reply.result (ending_after c.give-given.result (c.args.until_begun && next.begun)) next)
    (none_open (ending_after c.give-given.result (c.args.until_begun && next.begun)) next _))

pub returns-in-Ok-Text-clause-rises : goal.returns-in-Ok-Text-clause-rises
returns-in-Ok-Text-clause-rises g c =
    let line = rw (c.in-Ok-Text.is, c.in-Ok-Text.field-0-is) at c.next.follows.holds-at-none in
    one_more c.after.result line.1

pub returns-in-Ok-Text-clause-setting : goal.returns-in-Ok-Text-clause-setting
returns-in-Ok-Text-clause-setting g c =
    rw (c.after.ensures, c.is_set_up.ensures) (given_open c.give-given.result c.args.until_begun _ (λ until. (c.answer-reply.ensures.begins (unbegun c.requires.setting until)).1))

pub returns-in-Ok-Text-clause-input : goal.returns-in-Ok-Text-clause-input
returns-in-Ok-Text-clause-input g c = record {
  fault = untold c.next.ensures.later (λ is. no_read c.give-given.result c.is_set_up.result (sym c.after.ensures ∙ is));
  kept = c.next.ensures.kept;
}

pub returns-in-Ok-Text-clause-output : goal.returns-in-Ok-Text-clause-output
returns-in-Ok-Text-clause-output g c = record {
  fault = record {
    cause = λ is. failed c.give-given.result c.is_set_up.result _ c.give-given.ensures.cause.failed (sym c.after.ensures ∙ is);
    later = c.give-given.ensures.cause.later;
  };
  kept = c.give-given.ensures.kept;
}

-- a line that is too long
pub returns-in-Ok-Long-clause-turned : goal.returns-in-Ok-Long-clause-turned
returns-in-Ok-Long-clause-turned g c =
    let (line, long, takes) = rw (c.in-Ok-Long.is, c.in-Ok-Long.field-0-is) at c.next.follows.holds-at-none in
    let w = g.A.Answers.world c.args.self.now.script in
    λ before sent so_far. rw c.after-in-Ok-Long.ensures (at_given (is_last c.args.until_begun) g.A.Answers.replied NothingFollows opening_world before _ _ sent _ _ _ _ _ _ _ line replies.Long w so_far takes
    (λ other for. c.reply_law.ensures.given w w line replies.Long other (c.reply_law.ensures.too_long w line long) for (λ not_brief. cc))
    c.give-given-in-Ok-Long.result false w c.give-given-in-Ok-Long.ensures.given c.give-given-in-Ok-Long.ensures.lost
    (long_goes_on c.args.until_begun w (unbegun c.requires.setting)) (nothing_more replies.Long (ending_after c.give-given-in-Ok-Long.result false) w)
    (none_open (ending_after c.give-given-in-Ok-Long.result false) w _))

pub returns-in-Ok-Long-clause-rises : goal.returns-in-Ok-Long-clause-rises
returns-in-Ok-Long-clause-rises g c =
    let (line, long, takes) = rw (c.in-Ok-Long.is, c.in-Ok-Long.field-0-is) at c.next.follows.holds-at-none in
    one_more c.after-in-Ok-Long.result takes

pub returns-in-Ok-Long-clause-setting : goal.returns-in-Ok-Long-clause-setting
returns-in-Ok-Long-clause-setting g c = still_open c.requires.setting

pub returns-in-Ok-Long-clause-input : goal.returns-in-Ok-Long-clause-input
returns-in-Ok-Long-clause-input g c = record {
  fault = untold c.next.ensures.later (λ is. no_read c.give-given-in-Ok-Long.result false (sym c.after-in-Ok-Long.ensures ∙ is));
  kept = c.next.ensures.kept;
}

pub returns-in-Ok-Long-clause-output : goal.returns-in-Ok-Long-clause-output
returns-in-Ok-Long-clause-output g c = record {
  fault = record {
    cause = λ is. failed c.give-given-in-Ok-Long.result false _ c.give-given-in-Ok-Long.ensures.cause.failed (sym c.after-in-Ok-Long.ensures ∙ is);
    later = c.give-given-in-Ok-Long.ensures.cause.later;
  };
  kept = c.give-given-in-Ok-Long.ensures.kept;
}

-- the end, and the faults: nothing is written
pub returns-in-Ok-End-clause-turned : goal.returns-in-Ok-End-clause-turned
returns-in-Ok-End-clause-turned g c =
    let done = rw (c.in-Ok-End.is, c.in-Ok-End.field-0-is) at c.next.follows.holds-at-none in
    λ before sent so_far. at_end (is_last c.args.until_begun) g.A.Answers.replied NothingFollows opening_world before _ _ sent _ _ _ _ _ c.requires.idle so_far done

pub returns-in-Err-clause-turned : goal.returns-in-Err-clause-turned
returns-in-Err-clause-turned g c =
    let stop = rw c.in-Err.is at c.next.follows.holds-at-none in
    λ before sent so_far. rw c.of.ensures (at_fault (is_last c.args.until_begun) g.A.Answers.replied NothingFollows opening_world before _ _ sent _ _ _ _ _ c.in-Err.fault c.requires.idle so_far stop)

pub returns-in-Ok-End-clause-setting : goal.returns-in-Ok-End-clause-setting
returns-in-Ok-End-clause-setting g c = still_open c.requires.setting

pub returns-in-Err-clause-setting : goal.returns-in-Err-clause-setting
returns-in-Err-clause-setting g c = still_open c.requires.setting

pub returns-in-Ok-End-clause-input : goal.returns-in-Ok-End-clause-input
returns-in-Ok-End-clause-input g c = record { fault = untold c.next.ensures.later (λ is. cc); kept = c.next.ensures.kept }

pub returns-in-Err-clause-input : goal.returns-in-Err-clause-input
returns-in-Err-clause-input g c = record {
  fault = record {
    cause = λ is. c.next.ensures.cause c.requires.sound (c.in-Err.is ∙ ap Err (read_fault c.in-Err.fault (sym (ap Some c.of.ensures) ∙ is)));
    later = c.next.ensures.later;
  };
  kept = c.next.ensures.kept;
}

pub returns-in-Ok-End-clause-output : goal.returns-in-Ok-End-clause-output
returns-in-Ok-End-clause-output g c = record { fault = untold (omega arith) (λ is. cc); kept = g.met.K.Sink.writes_to_itself _ }

pub returns-in-Err-clause-output : goal.returns-in-Err-clause-output
returns-in-Err-clause-output g c = record {
  fault = untold (omega arith) (λ is. no_write c.in-Err.fault (sym (ap Some c.of.ensures) ∙ is));
  kept = g.met.K.Sink.writes_to_itself _;
}
