use Rattle.std.proofs.Common.{[], Some, ap, arith}
use Rattle.std.proofs.Math.Nat.{le_trans}
use Rattle.mt_io.proofs.Known.{appends_none}
use Rattle.mt_lines.specs.Given.{is_farewell}
use Rattle.mt_lines.proofs.Closing.{closed, closed_short, stays_open}
use Rattle.mt_lines.proofs.Streams.{untold}
use Rattle.mt_write.specs.Reply.{reply_text}
use Rattle.mt_session.specs.Following.{IsFollowed, TouchesNoJob}
use Rattle.mt_session.proofs.Stays.{stays_itself, stays_on}
use Rattle.mt_session.proofs.over_link.Lines.answer_all.Goals as goal

pub loop-ending-init : goal.loop-ending-init
loop-ending-init g c = record {
  so_far = λ start before first. ([], appends_none _, rw c.requires.none first);
  on = stays_itself _;
  sound = c.requires.sound;
  bound = c.requires.bound;
  read = omega arith;
  written = omega arith;
}

pub loop-ending-preserved : goal.loop-ending-preserved
loop-ending-preserved g c =
    let so_far = c.loop-ending.invariant in
    let turn = c.in_default.ensures in
    record {
      so_far = λ start before first. stays_open reply_text is_farewell TouchesNoJob IsFollowed start before _ _ _ _ _ _ _ _ _ _ _ (so_far.so_far start before first) (turn.turned start);
      on = stays_on _ _ _ so_far.on turn.on;
      sound = turn.rises.2;
      bound = turn.rises.1;
      read = le_trans so_far.read turn.reads.later;
      written = le_trans so_far.written turn.writes.later;
    }

-- what waited was written
pub returns-in-Ok-clause-ended : goal.returns-in-Ok-clause-ended
returns-in-Ok-clause-ended g c =
    let left = g.met.L.Duplex.writing_keeps_left _ _ c.flush.ensures.kept in
    λ start before begun.
    let (sent, first, so_far) = c.loop-ending.invariant.so_far start before begun in
    rw left (closed reply_text is_farewell TouchesNoJob IsFollowed start before _ _ _ _ _ sent _ _ _ _ first (c.in-Some.ensures.turned start before sent so_far) c.in-Ok.ensures.ok)

-- what waited was written in part
pub returns-in-Err-clause-ended : goal.returns-in-Err-clause-ended
returns-in-Err-clause-ended g c =
    let left = g.met.L.Duplex.writing_keeps_left _ _ c.flush.ensures.kept in
    λ start before begun.
    let (sent, first, so_far) = c.loop-ending.invariant.so_far start before begun in
    rw left (closed_short reply_text is_farewell TouchesNoJob IsFollowed start before _ _ _ _ _ sent _ _ _ c.in-Some.ending first (c.in-Some.ensures.turned start before sent so_far) c.in-Err.ensures.err)

pub returns-in-Ok-clause-on : goal.returns-in-Ok-clause-on
returns-in-Ok-clause-on g c = stays_on _ _ _ c.loop-ending.invariant.on c.turn.ensures.on

pub returns-in-Err-clause-on : goal.returns-in-Err-clause-on
returns-in-Err-clause-on g c = stays_on _ _ _ c.loop-ending.invariant.on c.turn.ensures.on

pub returns-in-Ok-clause-reads : goal.returns-in-Ok-clause-reads
returns-in-Ok-clause-reads g c =
    let kept = g.met.L.Duplex.writing_keeps_count _ _ c.flush.ensures.kept in
    record { cause = λ is. omega (arith, c.in-Some.ensures.reads.cause (ap Some is), c.loop-ending.invariant.read, kept); later = omega (arith, c.loop-ending.invariant.read, c.turn.ensures.reads.later, kept) }

pub returns-in-Err-clause-reads : goal.returns-in-Err-clause-reads
returns-in-Err-clause-reads g c =
    let kept = g.met.L.Duplex.writing_keeps_count _ _ c.flush.ensures.kept in
    untold (omega (arith, c.loop-ending.invariant.read, c.turn.ensures.reads.later, kept)) (λ is. cc)

pub returns-in-Ok-clause-writes : goal.returns-in-Ok-clause-writes
returns-in-Ok-clause-writes g c = record {
  cause = λ is. omega (arith, c.in-Some.ensures.writes.cause (ap Some is), c.loop-ending.invariant.written, c.flush.ensures.cause.later);
  later = omega (arith, c.loop-ending.invariant.written, c.turn.ensures.writes.later, c.flush.ensures.cause.later);
}

pub returns-in-Err-clause-writes : goal.returns-in-Err-clause-writes
returns-in-Err-clause-writes g c =
    let failed = rw c.in-Err.is at c.flush.ensures.cause.failed in
    record {
      cause = λ is. omega (arith, failed, c.loop-ending.invariant.written, c.turn.ensures.writes.later);
      later = omega (arith, c.loop-ending.invariant.written, c.turn.ensures.writes.later, c.flush.ensures.cause.later);
    }
