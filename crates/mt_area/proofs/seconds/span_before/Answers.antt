use Rattle.std.proofs.lemmas.Bool.Decides.{not_from_Decides}
use Rattle.mt_frac.specs.Instants.{HoldsIn}
use Rattle.mt_frac.specs.Meeting.{AreBelow}
use Rattle.mt_base.proofs.Spans.{IsSpan-of}
use Rattle.mt_track.proofs.Halving.{none_over, some_from}
use Rattle.mt_area.proofs.seconds.span_before.Goals as goal

pub first_over-first-requires-clause-some : goal.first_over-first-requires-clause-some
first_over-first-requires-clause-some c = c.meet_over.ensures.0 c.if-not-meet_over.false

pub last_over-last-requires-clause-some : goal.last_over-last-requires-clause-some
last_over-last-requires-clause-some c = some_from (HoldsIn (AreBelow c.args.lines.now)) _ _ _ c.first_over-first.ensures.is

pub returns-then-not-meet_over : goal.returns-then-not-meet_over
returns-then-not-meet_over c = λ k begun ahead.
    none_over (HoldsIn (AreBelow c.args.lines.now)) _ _ k (not_from_Decides _ c.meet_over.ensures c.if-not-meet_over.true) begun ahead

pub returns : goal.returns
returns c = IsSpan-of (HoldsIn (AreBelow c.args.lines.now)) _ _ _ _ c.first_over-first.ensures.is c.last_over-last.ensures.is
