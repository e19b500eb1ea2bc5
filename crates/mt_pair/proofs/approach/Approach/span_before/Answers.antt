use Rattle.mt_base.proofs.Spans.{IsSpan-of}
use Rattle.mt_track.proofs.Halving.{some_from}
use Rattle.mt_frac.specs.Instants.{HoldsIn}
use Rattle.mt_pair.specs.Private.Cases.{IsLoss}
use Rattle.mt_pair.proofs.approach.Approach.span_before.Goals as goal

pub last_over-last-requires-clause-some : goal.last_over-last-requires-clause-some
last_over-last-requires-clause-some c = some_from (HoldsIn (IsLoss c.args.self.now)) _ _ _ c.in_ok-first.ensures.is

pub returns-in_err-first-clause-span : goal.returns-in_err-first-clause-span
returns-in_err-first-clause-span c = rw c.from_residual.ensures c.in_err-first.ensures.is

pub returns-clause-span : goal.returns-clause-span
returns-clause-span c = IsSpan-of _ _ _ _ _ c.in_ok-first.ensures.is c.last_over-last.ensures.is
