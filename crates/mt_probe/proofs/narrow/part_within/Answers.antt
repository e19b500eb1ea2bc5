use Rattle.std.proofs.Common.{◌≡◌, ◌<◌, ◌≤◌, ◌+◌, ◌-◌, ℕ, arith}
use Rattle.mt_probe.proofs.Spans.{none_narrows, nothing_lies_across, part_narrows}
use Rattle.mt_probe.proofs.narrow.part_within.Goals as goal

-- the last second before an end
before_end : (from to : ℕ) → from < to → (from ≤ to - 1) × (to - 1 + 1 ≡ to)
before_end from to wide = (omega (arith, wide), omega (arith, wide))

pub returns-in_err-first : goal.returns-in_err-first
returns-in_err-first c = λ rules a b begin end later sooner is solid.
    rw c.from_residual.ensures (none_narrows rules a b begin end c.args.from c.args.to later sooner (rw c.in_err-first.was at is))

pub returns-then-first-last : goal.returns-then-first-last
returns-then-first-last c = λ rules a b begin end later sooner is solid.
    let ends = before_end c.args.from c.args.to c.requires in
    rw (c.max-first.ensures, c.min-last.ensures) (part_narrows rules a b begin end c.args.from c.args.to later sooner c.in_ok-first.first c.in_ok-first.last
    (c.args.to - 1) ends.0 ends.1 (rw c.in_ok-first.was at is) (rw (c.max-first.ensures, c.min-last.ensures) at c.if-first-last.true)
    (rw c.in_ok-first.was at solid))

pub returns-else-first-last : goal.returns-else-first-last
returns-else-first-last c = λ rules a b begin end later sooner is solid.
    let ends = before_end c.args.from c.args.to c.requires in
    nothing_lies_across rules a b begin end c.args.from c.args.to later sooner c.in_ok-first.first c.in_ok-first.last
    (c.args.to - 1) ends.0 ends.1 (rw c.in_ok-first.was at is) (rw (c.max-first.ensures, c.min-last.ensures) at c.if-first-last.false)
