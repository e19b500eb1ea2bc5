use Rattle.std.proofs.Common.{◌≡◌, ◌<◌, ◌≤◌, ℕ, false, inl, inr, sym, ◌∙◌, arith}
use Rattle.std.proofs.lemmas.Bool.Decides.{nat_tests}
use Rattle.mt_pair.specs.Crossing.{crosses_one}
use Rattle.mt_probe.proofs.Spans.{inside_narrows, none_narrows, outside_narrows}
use Rattle.mt_probe.proofs.narrow.narrowed.Goals as goal
use Rattle.mt_probe.proofs.narrow.narrowed.Goals.{then-last-from-via-then-last-from, then-last-from-via-else-last-from+then-to-first}

pub returns-in_default-clause-exact : goal.returns-in_default-clause-exact
returns-in_default-clause-exact c = λ rules a b begin end later sooner is.
    none_narrows rules a b begin end c.args.from c.args.to later sooner (rw c.in_default.is at is)

pub returns-then-last-from-clause-exact : goal.returns-then-last-from-clause-exact
returns-then-last-from-clause-exact c = λ rules a b begin end later sooner is.
    outside_narrows rules a b begin end c.args.from c.args.to later sooner c.in-Some.first c.in-Some.last
    (elim c.then-last-from.branch [
      | then-last-from-via-then-last-from w ↦ inl w.if-last-from.true
      | then-last-from-via-else-last-from+then-to-first w ↦ inr w.if-to-first.true
    ]) (rw c.in-Some.is at is)

-- a span that crosses neither edge, doesn't end before the first one and begins before the second one lies between them
lies_between : (first last from to : ℕ) → crosses_one from to first last ≡ false → from ≤ last → first < to → (from ≤ first) × (last < to)
lies_between first last from to none lasting begun = grind (arith, nat_tests)

pub returns-clause-exact : goal.returns-clause-exact
returns-clause-exact c = λ rules a b begin end later sooner is.
    let between = lies_between c.in-Some.first c.in-Some.last c.args.from c.args.to (sym c.crosses_one.ensures ∙ c.if-crosses_one.false) c.if-last-from.false c.if-to-first.false in
    rw c.in-Some.is (inside_narrows rules a b begin end c.args.from c.args.to later sooner c.in-Some.first c.in-Some.last between.0 between.1
    (rw c.in-Some.is at is))
