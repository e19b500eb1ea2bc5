use Rattle.std.proofs.Common.{sym, true≢false}
use Rattle.mt_ring.proofs.Signs.{contrary}
use Rattle.mt_pair.proofs.question.are_below_with.Goals as goal

pub returns-in_default : goal.returns-in_default
returns-in_default c = (
  (λ t. absurd (true≢false (sym t))),
  (λ all. absurd (contrary _ (c.in_default.ensures all.n all.d all.positive all.between) all.holds.1)),
)

pub returns : goal.returns
returns c = (
  (λ t.
      let some = c.are_below_inside.ensures.0 t in
      let first = (c.in-Some.ensures.exact some.n some.d some.positive).0 some.between in
      record { n = some.n; d = some.d; positive = some.positive; between = first.between; holds = (some.holds, first.below) }),
  (λ all.
      let first = (c.in-Some.ensures.exact all.n all.d all.positive).1 (record { between = all.between; below = all.holds.1 }) in
      c.are_below_inside.ensures.1 (record { n = all.n; d = all.d; positive = all.positive; between = first; holds = all.holds.0 })),
)
