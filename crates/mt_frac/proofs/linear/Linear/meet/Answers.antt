use Rattle.std.proofs.Common.{◌∙◌, arith, pos, refl, sym, true≢false, w64}
use Rattle.std.proofs.lemmas.Int.{ints, to_z-of_z}
use Rattle.mt_frac.specs.declared.linear.Linear.{Linear}
use Rattle.mt_frac.proofs.Meets.{all_meet, none_meet, none_yet, one_more}
use Rattle.mt_frac.proofs.linear.Linear.meet.Goals as goal

-- what the code reads where a list has no such place
abbrev blank : Linear
blank = record { b = pos 0; c = pos 0 }

pub whole-low-requires-clause-begun : goal.whole-low-requires-clause-begun
whole-low-requires-clause-begun c = rw (to_z-of_z w64 c.args.lo c.ranges.lo) c.requires.begun

pub whole-low-requires-clause-short : goal.whole-low-requires-clause-short
whole-low-requires-clause-short c = rw (to_z-of_z w64 c.args.lo c.ranges.lo) (omega (arith, ints))

pub whole-high-requires-clause-begun : goal.whole-high-requires-clause-begun
whole-high-requires-clause-begun c = rw (to_z-of_z w64 c.args.hi c.ranges.hi) (omega (arith, ints))

pub whole-high-requires-clause-short : goal.whole-high-requires-clause-short
whole-high-requires-clause-short c = rw (to_z-of_z w64 c.args.hi c.ranges.hi) c.requires.short

pub loop-line-init : goal.loop-line-init
loop-line-init c = record {
  ordered = rw (
    c.whole-low.ensures.num,
    c.whole-low.ensures.den,
    c.whole-high.ensures.num,
    c.whole-high.ensures.den,
    to_z-of_z w64 c.args.lo c.ranges.lo,
    to_z-of_z w64 c.args.hi c.ranges.hi,
  ) (omega (arith, ints));
  exact = none_yet c.args.lines.now _ _ _ _;
}

pub cut-requires-clause-bounded : goal.cut-requires-clause-bounded
cut-requires-clause-bounded c = c.requires.bounded c.loop-line.line-index blank c.loop-line-test.true

pub loop-line-preserved : goal.loop-line-preserved
loop-line-preserved c = record {
  ordered = c.in-Some.ensures.ordered;
  exact = one_more c.args.lines.now c.loop-line.line-index blank c.whole-low.result.num c.whole-low.result.den c.whole-high.result.num c.whole-high.result.den
      _ _ _ _ _ _ _ _ c.loop-line-test.true c.loop-line.invariant.exact c.in-Some.ensures;
}

pub returns-in_default : goal.returns-in_default
returns-in_default c = (
  (λ t. absurd (true≢false (sym t))),
  (λ some. absurd (none_meet c.args.lines.now c.loop-line.line-index blank c.args.lo c.args.hi _ _ _ _ _ _ _ _
      (c.whole-low.ensures.num ∙ to_z-of_z w64 c.args.lo c.ranges.lo) c.whole-low.ensures.den
      (c.whole-high.ensures.num ∙ to_z-of_z w64 c.args.hi c.ranges.hi) c.whole-high.ensures.den
      c.loop-line-test.true c.loop-line.invariant.exact c.in_default.ensures some)),
)

pub returns : goal.returns
returns c = (
  (λ t. all_meet c.args.lines.now c.loop-line.line-index c.args.lo c.args.hi _ _ _ _ _ _ _ _
      (c.whole-low.ensures.num ∙ to_z-of_z w64 c.args.lo c.ranges.lo) c.whole-low.ensures.den
      (c.whole-high.ensures.num ∙ to_z-of_z w64 c.args.hi c.ranges.hi) c.whole-high.ensures.den
      (omega (arith, ints)) (omega (arith, ints)) c.loop-line-test.false c.loop-line.invariant.ordered c.loop-line.invariant.exact),
  (λ some. refl),
)
