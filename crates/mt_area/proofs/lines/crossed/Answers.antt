use Rattle.std.proofs.Common.{arith}
use Rattle.std.proofs.lemmas.List.{length-set}
use Rattle.mt_area.proofs.Crossings.{AreFirst-all, AreFirst-push, AreFirst-skip, none_crossed}
use Rattle.mt_area.proofs.lines.crossed.Goals as goal

pub loop-i-preserved-then-stays_below : goal.loop-i-preserved-then-stays_below
loop-i-preserved-then-stays_below c = record {
  few = omega (arith, c.loop-i.invariant.few);
  len = c.loop-i.invariant.len;
  first = AreFirst-skip _ _ _ c.loop-i.i _ c.line_at-line.result c.line_at-line.ensures.is (c.stays_below.ensures.0 c.if-stays_below.true) c.loop-i.invariant.first;
}

pub returns-then-stays_above-clause-none : goal.returns-then-stays_above-clause-none
returns-then-stays_above-clause-none c = λ none.
    none_crossed _ _ _ c.loop-i.i c.line_at-line.result c.line_at-line.ensures.is (c.stays_above.ensures.0 c.if-stays_above.true)

pub loop-i-preserved : goal.loop-i-preserved
loop-i-preserved c = record {
  few = omega (arith, c.loop-i.invariant.few);
  len = simp length-set c.loop-i.invariant.len;
  first = AreFirst-push _ _ _ c.loop-i.i c.loop-i.count c.loop-i.lines c.line_at-line.result (omega (arith, c.loop-i.invariant.few, c.loop-i.invariant.len, c.loop-i-test.true))
      c.line_at-line.ensures.is c.line_at-line.ensures.bounded c.loop-i.invariant.first;
}

pub returns-clause-some : goal.returns-clause-some
returns-clause-some c = (
  omega (arith, c.loop-i.invariant.few, c.loop-i.auto.i-end),
  AreFirst-all _ _ _ c.loop-i.i _ c.requires.area_kept (omega (arith, c.loop-i-test.false)) c.loop-i.invariant.first,
)
