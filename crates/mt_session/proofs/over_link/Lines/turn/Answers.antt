use Rattle.mt_lines.specs.Given.{is_farewell}
use Rattle.mt_lines.proofs.Idle.{idle_of}
use Rattle.mt_lines.proofs.Streams.{behind, untold}
use Rattle.mt_lines.proofs.Turning.{behind_ready, cut_ready}
use Rattle.mt_session.specs.Following.{IsFollowed, TouchesNoJob}
use Rattle.mt_session.proofs.Stays.{stays_on, stays_same}
use Rattle.mt_session.proofs.over_link.Lines.turn.Goals as goal

pub returns-in-Ok-clause-turned : goal.returns-in-Ok-clause-turned
returns-in-Ok-clause-turned g c =
    let left = g.met.L.Duplex.writing_keeps_left _ _ c.ready.ensures.kept in
    λ start before sent so_far. behind_ready is_farewell TouchesNoJob IsFollowed start before _ _ sent _ _ _ _ _ _ _ _ _ _ _ c.in-Ok.ensures.ok (rw (left, c.before_read.ensures.same.0) at (c.answer_next.ensures.turned start)) so_far

pub returns-in-Err-clause-turned : goal.returns-in-Err-clause-turned
returns-in-Err-clause-turned g c =
    let left = g.met.L.Duplex.writing_keeps_left _ _ c.ready.ensures.kept in
    λ start before sent so_far. rw (left, c.before_read.ensures.same.0) (cut_ready is_farewell TouchesNoJob IsFollowed start before (g.L.Source.left c.args.link.now) (g.L.Source.left c.args.link.now) sent
    c.args.self.now.reader c.args.self.now.reader _ _ _ _ _ c.in-Err.ensures.err c.in-Err.ensures.lost c.has_line-ahead.ensures.bound so_far)

pub answer_next-requires-clause-idle : goal.answer_next-requires-clause-idle
answer_next-requires-clause-idle g c = λ κs lives. idle_of c.has_line-ahead.result _ _ c.has_line-ahead.ensures.ahead c.in-Ok.ensures.idle

pub answer_next-requires-clause-anew : goal.answer_next-requires-clause-anew
answer_next-requires-clause-anew g c = λ κs lives. idle_of c.has_line-ahead.result _ _ c.has_line-ahead.ensures.ahead c.before_read.ensures.anew

pub returns-in-Ok-clause-rises : goal.returns-in-Ok-clause-rises
returns-in-Ok-clause-rises g c = c.answer_next.ensures.rises

pub returns-in-Ok-clause-on : goal.returns-in-Ok-clause-on
returns-in-Ok-clause-on g c = stays_on _ _ _ (stays_same _ _ c.before_read.ensures.same) c.answer_next.ensures.on

pub returns-in-Ok-clause-reads : goal.returns-in-Ok-clause-reads
returns-in-Ok-clause-reads g c = behind (g.met.L.Duplex.writing_keeps_count _ _ c.ready.ensures.kept) c.answer_next.ensures.reads

pub returns-in-Ok-clause-writes : goal.returns-in-Ok-clause-writes
returns-in-Ok-clause-writes g c = behind c.ready.ensures.cause.later c.answer_next.ensures.writes

-- the output failed
pub returns-in-Err-clause-on : goal.returns-in-Err-clause-on
returns-in-Err-clause-on g c = stays_same _ _ c.before_read.ensures.same

pub returns-in-Err-clause-reads : goal.returns-in-Err-clause-reads
returns-in-Err-clause-reads g c = untold (g.met.L.Duplex.writing_keeps_count _ _ c.ready.ensures.kept) (λ is. cc)

pub returns-in-Err-clause-writes : goal.returns-in-Err-clause-writes
returns-in-Err-clause-writes g c = record { cause = λ is. rw c.in-Err.is at c.ready.ensures.cause.failed; later = c.ready.ensures.cause.later }
