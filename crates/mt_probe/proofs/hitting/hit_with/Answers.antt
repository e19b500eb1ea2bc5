use Rattle.std.proofs.Common.{◌≡◌, ◌/◌, Some, sym, ◌∙◌, subst, arith}
use Rattle.std.specs.Prelude.{option_and_then}
use Rattle.mt_base.specs.declared.conflict.Kind.{Kind}
use Rattle.mt_probe.specs.Items.{path_of}
use Rattle.mt_probe.specs.Shot.{flight_at}
use Rattle.mt_probe.proofs.Ahead.{early_ahead, lost_ahead}
use Rattle.mt_probe.proofs.Clearing.{clear_there, flown_one, hit_there, no_path, other_place, record_by_path, same_place}
use Rattle.mt_probe.proofs.hitting.hit_with.Goals as goal

pub met_in_window-requires-clause-rules : goal.met_in_window-requires-clause-rules
met_in_window-requires-clause-rules c = c.rules-rules.ensures.kept

pub met_in_window-requires-clause-early : goal.met_in_window-requires-clause-early
met_in_window-requires-clause-early c = c.now-now.ensures.early

pub met_in_window-requires-clause-ends : goal.met_in_window-requires-clause-ends
met_in_window-requires-clause-ends c = early_ahead c.args.snapshot.now c.args.strand.now c.args.met c.keeps-2.ensures c.requires

pub met_in_window-requires-clause-within : goal.met_in_window-requires-clause-within
met_in_window-requires-clause-within c = λ k low high loss.
    let shot = c.args.snapshot.now in
    let kind = sym c.in-Actual.is ∙ c.kind_of-kind.ensures in
    let other = c.in_ok-other.other.now in
    let named = subst (λ (n : Kind). Some other ≡ option_and_then (path_of n) (flight_at shot (c.args.met.item / 2))) kind c.in_ok-other.ensures in
    lost_ahead shot c.args.strand.now c.args.met other k c.keeps.ensures.sound c.keeps-2.ensures c.requires named
    (rw c.now-now.ensures.now at low) (rw c.now-now.ensures.now at high) (rw c.rules-rules.ensures.rules at loss)

pub returns-clause-hit : goal.returns-clause-hit
returns-clause-hit c = λ call place.
    let conflict = rw (c.rules-rules.ensures.rules, c.now-now.ensures.now) at c.in_ok-first.ensures.conflict in
    hit_there c.args.snapshot.now call c.args.strand.now _ c.args.own c.in_ok-card.card.now c.in_ok-other.other.now c.in_ok-first.first c.in_ok-first.last
    c.keeps.ensures.sound place (other_place c.args.own _ (sym c.eq.ensures ∙ c.if-eq.false)) c.in_ok-card.ensures c.in_ok-other.ensures conflict

pub returns-in_err-first-clause-clear : goal.returns-in_err-first-clause-clear
returns-in_err-first-clause-clear c = λ call _ _ _.
    let conflict = rw (c.rules-rules.ensures.rules, c.now-now.ensures.now) at c.in_err-first.ensures.conflict in
    clear_there c.args.snapshot.now call c.args.strand.now _ c.in_ok-other.other.now c.keeps.ensures.sound c.in_ok-other.ensures conflict

pub returns-in_err-card-clause-clear : goal.returns-in_err-card-clause-clear
returns-in_err-card-clause-clear c = absurd (record_by_path _ c.in_ok-other.other.now c.in_ok-other.ensures c.in_err-card.ensures)

pub returns-clause-counted : goal.returns-clause-counted
returns-clause-counted c = λ call place.
    let one = flown_one c.args.snapshot.now call c.args.met.item c.args.own c.in_ok-other.other.now place (other_place c.args.own _ (sym c.eq.ensures ∙ c.if-eq.false))
    (sym c.in-Actual.is ∙ c.kind_of-kind.ensures) c.in_ok-other.ensures in
    omega (arith, one, c.in_ok-first.ensures.counted)

pub returns-in_err-first-clause-counted : goal.returns-in_err-first-clause-counted
returns-in_err-first-clause-counted c = λ call place.
    let one = flown_one c.args.snapshot.now call c.args.met.item c.args.own c.in_ok-other.other.now place (other_place c.args.own _ (sym c.eq.ensures ∙ c.if-eq.false))
    (sym c.in-Actual.is ∙ c.kind_of-kind.ensures) c.in_ok-other.ensures in
    omega (arith, one, c.in_err-first.ensures.counted)

pub returns-in_default-clause-clear : goal.returns-in_default-clause-clear
returns-in_default-clause-clear c = λ _ _ _ flown. absurd (c.in_default.not-Actual (c.kind_of-kind.ensures ∙ flown))

pub returns-then-eq-clause-clear : goal.returns-then-eq-clause-clear
returns-then-eq-clause-clear c = λ _ place _ _ f at apart. absurd (apart ((place _ f at).1 (same_place c.args.own _ (sym c.eq.ensures ∙ c.if-eq.true))))

pub returns-in_err-other-clause-clear : goal.returns-in_err-other-clause-clear
returns-in_err-other-clause-clear c = λ _ _ _ _ f at. absurd (no_path _ f c.in_err-other.ensures at)

pub returns-clause-tested : goal.returns-clause-tested
returns-clause-tested c = c.in_ok-first.ensures.tested
