use Rattle.std.proofs.Common.{arith, ⊎_elim}
use Rattle.std.proofs.lemmas.Bool.{cases_lt}
use Rattle.std.proofs.lemmas.Bool.Decides.{not_from_Decides}
use Rattle.mt_track.proofs.Halving.{halved, left_before, none_over, only_one}
use Rattle.mt_track.proofs.spans.last_over.Goals as goal

pub loop-end-init : goal.loop-end-init
loop-end-init g c = record {
  from = omega arith;
  to = omega arith;
  some = c.requires.some;
  none = λ k low ahead _. absurd (omega arith);
  left = record { rounds = 14; fits = omega (arith, c.requires.short); left = omega arith };
}

pub is_from-requires-clause-some : goal.is_from-requires-clause-some
is_from-requires-clause-some g c = (c.loop-end.begin, c.loop-end.invariant.some)

pub loop-end-preserved-then-is_from : goal.loop-end-preserved-then-is_from
loop-end-preserved-then-is_from g c = record {
  from = omega (arith, c.loop-end.invariant.from);
  to = c.loop-end.invariant.to;
  some = c.is_from.ensures.is.0 c.if-is_from.true;
  none = c.loop-end.invariant.none;
  left = halved _ _ _ _ _ (omega (arith, c.loop-end-test.true)) (omega (arith, c.loop-end-test.true)) (omega (arith, c.is_from.ensures.counted)) c.loop-end.invariant.left;
}

pub loop-end-preserved : goal.loop-end-preserved
loop-end-preserved g c =
    let quiet = not_from_Decides _ c.is_from.ensures.is c.if-is_from.false in
    record {
      from = c.loop-end.invariant.from;
      to = omega (arith, c.loop-end.invariant.to, c.loop-end-test.true);
      some = left_before (g.H.Halved.holds c.args.what.now) _ _ _ quiet c.loop-end.invariant.some;
      none = λ k low ahead. ⊎_elim (λ less. none_over (g.H.Halved.holds c.args.what.now) _ _ k quiet low less)
          (λ more. c.loop-end.invariant.none k more ahead) (cases_lt k c.loop-end.end);
      left = halved _ _ _ _ _ (omega (arith, c.loop-end-test.true)) (omega (arith, c.loop-end-test.true)) (omega (arith, c.is_from.ensures.counted)) c.loop-end.invariant.left;
    }

pub returns-clause-is : goal.returns-clause-is
returns-clause-is g c = record {
  begun = c.loop-end.invariant.from;
  ahead = let h = c.loop-end.invariant.some in omega (arith, h.begun, h.ahead, c.loop-end.invariant.to);
  is = only_one (g.H.Halved.holds c.args.what.now) _ _ (omega (arith, c.loop-end-test.false)) c.loop-end.invariant.some;
  none_after = λ k after ahead. c.loop-end.invariant.none k (omega (arith, c.loop-end-test.false)) ahead;
}

pub returns-clause-counted : goal.returns-clause-counted
returns-clause-counted g c = let h = c.loop-end.invariant.left in omega (arith, h.left)
