use Rattle.std.proofs.Common.{◌∙◌, ℕ, Option, List, [], Contains, length, ap, refl, subst, sym, arith}
use Rattle.std.proofs.lemmas.Result.{IfOk-weaker}
use Rattle.mt_base.specs.Conflict.{IsConflict}
use Rattle.mt_base.specs.Picture.{NamedTrajectory}
use Rattle.mt_probe.specs.Private.Finds.{FindsMore}
use Rattle.mt_base.specs.Trajectory.{horizon}
use Rattle.mt_probe.proofs.Gathered.{none_more, one_more, quiet_more}
use Rattle.mt_base.proofs.Members.{Contains-head}
use Rattle.mt_probe.proofs.Candidates.{early, lost_within}
use Rattle.mt_probe.proofs.Nearby.{other_nowhere, other_one, other_own, other_pathless}
use Rattle.mt_probe.proofs.finding.find_met.Goals as goal

pub find_one-found-requires-clause-ends : goal.find_one-found-requires-clause-ends
find_one-found-requires-clause-ends c = early c.args.snapshot.now c.args.strand.now c.args.met c.keeps-2.ensures c.requires

pub find_one-found-requires-clause-within : goal.find_one-found-requires-clause-within
find_one-found-requires-clause-within c = λ k loss.
    let shot = c.args.snapshot.now in
    let one = other_one shot.slots c.args.call c.args.met.item c.kind_of-kind.result c.in-Some.card.now c.in-Some-path.other.now c.kind_of-kind.ensures
    c.in-Some.ensures (sym c.eq.ensures ∙ c.if-eq.false) c.in-Some-path.ensures in
    let named : NamedTrajectory = record { call = c.in-Some.card.now.call; kind = c.kind_of-kind.result; path = c.in-Some-path.other.now } in
    lost_within shot c.args.strand.now c.args.met c.args.call named k c.keeps.ensures.sound c.keeps-2.ensures c.requires
    (subst (λ (others : List NamedTrajectory). Contains others named) (sym one) (Contains-head named []))
    (rw c.rules-rules.ensures.rules at loss)

pub returns-in-None-clause-found : goal.returns-in-None-clause-found
returns-in-None-clause-found c =
    let shot = c.args.snapshot.now in
    let found = rw (c.rules-rules.ensures.rules, c.now-now.ensures.now) at c.find_one-found.ensures.found in
    let quiet = subst (λ (whole : Option (ℕ × ℕ)). IsConflict shot.setup.rules c.args.strand.now c.in-Some-path.other.now 0 horizon whole) c.in-None.is found.whole in
    subst (λ (others : List NamedTrajectory). FindsMore shot.setup.rules shot.now c.args.strand.now others c.args.finds.now c.args.finds.now)
    (sym (other_one shot.slots c.args.call c.args.met.item c.kind_of-kind.result c.in-Some.card.now c.in-Some-path.other.now c.kind_of-kind.ensures
    c.in-Some.ensures (sym c.eq.ensures ∙ c.if-eq.false) c.in-Some-path.ensures))
    (quiet_more shot.setup.rules shot.now c.args.strand.now _ c.args.finds.now (λ k ahead. quiet k (omega arith) ahead))

pub returns-in-Some-whole-clause-found : goal.returns-in-Some-whole-clause-found
returns-in-Some-whole-clause-found c =
    let shot = c.args.snapshot.now in
    let found = rw (c.rules-rules.ensures.rules, c.now-now.ensures.now) at c.find_one-found.ensures.found in
    IfOk-weaker c.push.result _ _ (λ _ pushed.
    subst (λ (others : List NamedTrajectory). FindsMore shot.setup.rules shot.now c.args.strand.now others c.args.finds.now c.push.new.self)
    (sym (other_one shot.slots c.args.call c.args.met.item c.kind_of-kind.result c.in-Some.card.now c.in-Some-path.other.now c.kind_of-kind.ensures
    c.in-Some.ensures (sym c.eq.ensures ∙ c.if-eq.false) c.in-Some-path.ensures))
    (one_more shot.setup.rules shot.now c.args.strand.now _ c.find_one-found.result c.args.finds.now c.push.new.self found (rw c.in-Some-whole.is refl) pushed)) c.push.ensures.ok

pub returns-in-Some-whole-clause-counted : goal.returns-in-Some-whole-clause-counted
returns-in-Some-whole-clause-counted c =
    let shot = c.args.snapshot.now in
    let one = ap length (other_one shot.slots c.args.call c.args.met.item c.kind_of-kind.result c.in-Some.card.now c.in-Some-path.other.now c.kind_of-kind.ensures
    c.in-Some.ensures (sym c.eq.ensures ∙ c.if-eq.false) c.in-Some-path.ensures) in
    omega (arith, one, c.find_one-found.ensures.counted)

pub returns-in_default-clause-found : goal.returns-in_default-clause-found
returns-in_default-clause-found c =
    let shot = c.args.snapshot.now in
    subst (λ (others : List NamedTrajectory). FindsMore shot.setup.rules shot.now c.args.strand.now others c.args.finds.now c.args.finds.now)
    (sym (other_nowhere shot.slots c.args.call c.args.met.item c.in_default.ensures)) (none_more shot.setup.rules shot.now c.args.strand.now c.args.finds.now)

pub returns-then-eq-clause-found : goal.returns-then-eq-clause-found
returns-then-eq-clause-found c =
    let shot = c.args.snapshot.now in
    subst (λ (others : List NamedTrajectory). FindsMore shot.setup.rules shot.now c.args.strand.now others c.args.finds.now c.args.finds.now)
    (sym (other_own shot.slots c.args.call c.args.met.item c.in-Some.card.now c.in-Some.ensures (sym c.eq.ensures ∙ c.if-eq.true))) (none_more shot.setup.rules shot.now c.args.strand.now c.args.finds.now)

pub returns-in_default-path-clause-found : goal.returns-in_default-path-clause-found
returns-in_default-path-clause-found c =
    let shot = c.args.snapshot.now in
    subst (λ (others : List NamedTrajectory). FindsMore shot.setup.rules shot.now c.args.strand.now others c.args.finds.now c.args.finds.now)
    (sym (other_pathless shot.slots c.args.call c.args.met.item c.kind_of-kind.result c.kind_of-kind.ensures c.in_default-path.ensures)) (none_more shot.setup.rules shot.now c.args.strand.now c.args.finds.now)

pub find_one-found-requires-clause-rules : goal.find_one-found-requires-clause-rules
find_one-found-requires-clause-rules c = c.rules-rules.ensures.kept

pub find_one-found-requires-clause-early : goal.find_one-found-requires-clause-early
find_one-found-requires-clause-early c = c.now-now.ensures.early

pub returns-in-None-clause-counted : goal.returns-in-None-clause-counted
returns-in-None-clause-counted c =
    let shot = c.args.snapshot.now in
    let one = ap length (other_one shot.slots c.args.call c.args.met.item c.kind_of-kind.result c.in-Some.card.now c.in-Some-path.other.now c.kind_of-kind.ensures
    c.in-Some.ensures (sym c.eq.ensures ∙ c.if-eq.false) c.in-Some-path.ensures) in
    omega (arith, one, c.find_one-found.ensures.counted)
