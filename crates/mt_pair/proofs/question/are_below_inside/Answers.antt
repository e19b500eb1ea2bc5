use Rattle.std.proofs.Common.{sym, true≢false}
use Rattle.mt_ring.proofs.Signs.{contrary}
use Rattle.mt_pair.proofs.question.are_below_inside.Goals as goal

pub returns-in_default : goal.returns-in_default
returns-in_default c = (
  (λ t. absurd (true≢false (sym t))),
  (λ all. absurd (contrary _ (c.in_default.ensures all.n all.d all.positive all.between) all.holds.over_is)),
)

pub returns-in_default-below_in : goal.returns-in_default-below_in
returns-in_default-below_in c = (
  (λ t. absurd (true≢false (sym t))),
  (λ all.
      let first = (c.in-Some.ensures.exact all.n all.d all.positive).1 (record { between = all.between; below = all.holds.over_is }) in
      absurd (contrary _ (c.in_default-below_in.ensures all.n all.d all.positive first) all.holds.under_is)),
)

pub returns : goal.returns
returns c = (
  (λ t.
      let some = c.below_zero_in.ensures.0 t in
      let second = (c.in-Some-below_in.ensures.exact some.n some.d some.positive).0 some.between in
      let first = (c.in-Some.ensures.exact some.n some.d some.positive).0 second.between in
      record {
        n = some.n;
        d = some.d;
        positive = some.positive;
        between = first.between;
        holds = record { gap_is = some.below; over_is = first.below; under_is = second.below };
      }),
  (λ all.
      let first = (c.in-Some.ensures.exact all.n all.d all.positive).1 (record { between = all.between; below = all.holds.over_is }) in
      let second = (c.in-Some-below_in.ensures.exact all.n all.d all.positive).1 (record { between = first; below = all.holds.under_is }) in
      c.below_zero_in.ensures.1 (record { n = all.n; d = all.d; positive = all.positive; between = second; below = all.holds.gap_is })),
)
