use Rattle.std.proofs.Common.{Err, None, Some, false, ap, sym, ◌∙◌}
use Rattle.std.proofs.Math.Nat.{le_trans}
use Rattle.mt_lines.specs.Ending.{ending_after}
use Rattle.mt_lines.specs.Given.{is_farewell}
use Rattle.mt_write.specs.declared.reply.Reply.TheVariants as replies
use Rattle.mt_lines.proofs.Endings.{no_read, no_write, read_fault}
use Rattle.mt_lines.proofs.Streams.{behind, untold}
use Rattle.mt_lines.proofs.Turning.{at_end, at_fault, at_given, one_more}
use Rattle.mt_session.specs.Following.{IsFollowed, Standing, TouchesNoJob}
use Rattle.mt_session.proofs.Stays.{stays_itself, stays_on}
use Rattle.mt_session.proofs.Turning.{followed_so, long_followed, long_so, only_farewell, replied_so, settled}
use Rattle.mt_session.proofs.over_link.Lines.answer_next.Goals as goal

pub returns-in-Ok-Text-clause-turned : goal.returns-in-Ok-Text-clause-turned
returns-in-Ok-Text-clause-turned g c =
    let line = rw (c.in-Ok-Text.is, c.in-Ok-Text.field-0-is) at c.next.follows.holds-at-none in
    let left = g.met.L.Duplex.writing_keeps_left _ _ c.finish.ensures.output.kept in
    let held = g.met.L.Duplex.reading_keeps_held _ _ c.next.ensures.kept in
    let given = rw held at c.finish.ensures.given in
    let done = rw (c.answer-reply.ensures.job, given.result_is) at c.finish.ensures.done in
    let written = rw (c.answer-reply.ensures.job, given.result_is) at c.finish.ensures.written in
    let jobs = g.O.Outbox.jobs c.args.jobs.now in
    let w : Standing = record { session = c.args.self.now.serving.session; jobs = jobs } in
    let answered : Standing = record { session = c.answer-reply.new.self.session; jobs = jobs } in
    let next : Standing = record { session = c.finish.new.self.serving.session; jobs = g.O.Outbox.jobs c.finish.new.jobs } in
    λ start before sent so_far. rw (left, c.finish.ensures.reader, given.result_is) (at_given is_farewell TouchesNoJob IsFollowed start before _ _ sent _ _ _ _ _ _ _ c.in-Ok-Text.line.now
    c.answer-reply.result.0 answered so_far line.1 (replied_so w c.in-Ok-Text.line.now c.answer-reply.result.0 answered.session c.answer-reply.ensures.replied line.0) given.given false next given.gives given.lost
    (only_farewell c.answer-reply.result.0) (followed_so w c.in-Ok-Text.line.now (ending_after given.given false) c.answer-reply.result.0 answered next done)
    (settled (ending_after given.given false) _ answered next _ done written))

pub returns-in-Ok-Long-clause-turned : goal.returns-in-Ok-Long-clause-turned
returns-in-Ok-Long-clause-turned g c =
    let (line, long, takes) = rw (c.in-Ok-Long.is, c.in-Ok-Long.field-0-is) at c.next.follows.holds-at-none in
    let left = g.met.L.Duplex.writing_keeps_left _ _ c.finish-in-Ok-Long.ensures.output.kept in
    let held = g.met.L.Duplex.reading_keeps_held _ _ c.next.ensures.kept in
    let given = rw held at c.finish-in-Ok-Long.ensures.given in
    let done = rw given.result_is at c.finish-in-Ok-Long.ensures.done in
    let written = rw given.result_is at c.finish-in-Ok-Long.ensures.written in
    let w : Standing = record { session = c.args.self.now.serving.session; jobs = g.O.Outbox.jobs c.args.jobs.now } in
    let next : Standing = record { session = c.finish-in-Ok-Long.new.self.serving.session; jobs = g.O.Outbox.jobs c.finish-in-Ok-Long.new.jobs } in
    λ start before sent so_far. rw (left, c.finish-in-Ok-Long.ensures.reader, given.result_is) (at_given is_farewell TouchesNoJob IsFollowed start before _ _ sent _ _ _ _ _ _ _ line
    replies.Long w so_far takes (long_so w line long) given.given false next given.gives given.lost (only_farewell replies.Long) (long_followed w line long (ending_after given.given false) next done)
    (settled (ending_after given.given false) None w next _ done written))

pub returns-in-Ok-Text-clause-rises : goal.returns-in-Ok-Text-clause-rises
returns-in-Ok-Text-clause-rises g c =
    let line = rw (c.in-Ok-Text.is, c.in-Ok-Text.field-0-is) at c.next.follows.holds-at-none in
    rw c.finish.ensures.reader (one_more c.finish.result line.1)

pub returns-in-Ok-Long-clause-rises : goal.returns-in-Ok-Long-clause-rises
returns-in-Ok-Long-clause-rises g c =
    let (line, long, takes) = rw (c.in-Ok-Long.is, c.in-Ok-Long.field-0-is) at c.next.follows.holds-at-none in
    rw c.finish-in-Ok-Long.ensures.reader (one_more c.finish-in-Ok-Long.result takes)

pub returns-in-Ok-Text-clause-reads : goal.returns-in-Ok-Text-clause-reads
returns-in-Ok-Text-clause-reads g c = untold (le_trans c.next.ensures.later (g.met.L.Duplex.writing_keeps_count _ _ c.finish.ensures.output.kept))
    (λ is. no_read c.finish.ensures.given.given false (sym c.finish.ensures.given.result_is ∙ is))

pub returns-in-Ok-Long-clause-reads : goal.returns-in-Ok-Long-clause-reads
returns-in-Ok-Long-clause-reads g c = untold (le_trans c.next.ensures.later (g.met.L.Duplex.writing_keeps_count _ _ c.finish-in-Ok-Long.ensures.output.kept))
    (λ is. no_read c.finish-in-Ok-Long.ensures.given.given false (sym c.finish-in-Ok-Long.ensures.given.result_is ∙ is))

pub returns-in-Ok-Text-clause-writes : goal.returns-in-Ok-Text-clause-writes
returns-in-Ok-Text-clause-writes g c = behind (g.met.L.Duplex.reading_keeps_count _ _ c.next.ensures.kept) c.finish.ensures.output.fault

pub returns-in-Ok-Long-clause-writes : goal.returns-in-Ok-Long-clause-writes
returns-in-Ok-Long-clause-writes g c = behind (g.met.L.Duplex.reading_keeps_count _ _ c.next.ensures.kept) c.finish-in-Ok-Long.ensures.output.fault

pub returns-in-Ok-Text-clause-on : goal.returns-in-Ok-Text-clause-on
returns-in-Ok-Text-clause-on g c = stays_on _ _ _ c.answer-reply.ensures.on c.finish.ensures.on

pub returns-in-Ok-Long-clause-on : goal.returns-in-Ok-Long-clause-on
returns-in-Ok-Long-clause-on g c = c.finish-in-Ok-Long.ensures.on

-- the end, and the faults: nothing is written
pub returns-in-Ok-End-clause-turned : goal.returns-in-Ok-End-clause-turned
returns-in-Ok-End-clause-turned g c =
    let done = rw (c.in-Ok-End.is, c.in-Ok-End.field-0-is) at c.next.follows.holds-at-none in
    let held = g.met.L.Duplex.reading_keeps_held _ _ c.next.ensures.kept in
    λ start before sent so_far. rw held (at_end is_farewell TouchesNoJob IsFollowed start before _ _ sent _ _ _ _ _ c.requires.idle so_far done)

pub returns-in-Err-clause-turned : goal.returns-in-Err-clause-turned
returns-in-Err-clause-turned g c =
    let stop = rw c.in-Err.is at c.next.follows.holds-at-none in
    let held = g.met.L.Duplex.reading_keeps_held _ _ c.next.ensures.kept in
    λ start before sent so_far. rw (held, c.of.ensures) (at_fault is_farewell TouchesNoJob IsFollowed start before _ _ sent _ _ _ _ _ c.in-Err.fault c.requires.idle so_far stop)

pub returns-in-Ok-End-clause-on : goal.returns-in-Ok-End-clause-on
returns-in-Ok-End-clause-on g c = stays_itself _

pub returns-in-Err-clause-on : goal.returns-in-Err-clause-on
returns-in-Err-clause-on g c = stays_itself _

pub returns-in-Ok-End-clause-reads : goal.returns-in-Ok-End-clause-reads
returns-in-Ok-End-clause-reads g c = untold c.next.ensures.later (λ is. cc)

pub returns-in-Ok-End-clause-writes : goal.returns-in-Ok-End-clause-writes
returns-in-Ok-End-clause-writes g c = untold (g.met.L.Duplex.reading_keeps_count _ _ c.next.ensures.kept) (λ is. cc)

pub returns-in-Err-clause-reads : goal.returns-in-Err-clause-reads
returns-in-Err-clause-reads g c = record {
  cause = λ is. c.next.ensures.cause c.requires.sound (c.in-Err.is ∙ ap Err (read_fault c.in-Err.fault (sym (ap Some c.of.ensures) ∙ is)));
  later = c.next.ensures.later;
}

pub returns-in-Err-clause-writes : goal.returns-in-Err-clause-writes
returns-in-Err-clause-writes g c = untold (g.met.L.Duplex.reading_keeps_count _ _ c.next.ensures.kept) (λ is. no_write c.in-Err.fault (sym (ap Some c.of.ensures) ∙ is))

pub answer-reply-requires-clause-short : goal.answer-reply-requires-clause-short
answer-reply-requires-clause-short g c =
    let line = rw (c.in-Ok-Text.is, c.in-Ok-Text.field-0-is) at c.next.follows.holds-at-none in
    λ κs lives. line.0
