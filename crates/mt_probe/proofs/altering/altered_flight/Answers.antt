use Rattle.std.proofs.Common.{◌∙◌, sym}
use Rattle.mt_base.specs.declared.flight.Path.TheVariants.{Planned}
use Rattle.mt_base.specs.Decision.{filled}
use Rattle.mt_change.specs.Altered.{IsAlterationBy, altered}
use Rattle.mt_change.proofs.Filling.{filled_bounded_besides}
use Rattle.mt_probe.specs.Shot.{state_in_shot}
use Rattle.mt_probe.proofs.Left.{can_alter_filled, found_named, left_altered, not_planned, not_there, planned_there, verdict_named}
use Rattle.mt_probe.proofs.Looking.{planned_at}
use Rattle.mt_probe.proofs.altering.altered_flight.Goals as goal

pub unreachable-requires : goal.unreachable-requires
unreachable-requires c =
    let shot = c.args.snapshot.now in
    not_there _ (c.requires.named.flight_is ∙ sym c.in_default.ensures)
    (planned_there shot.setup (state_in_shot shot) c.args.who c.args.command.now c.requires.alters c.requires.passed)

pub unreachable-requires-in_default-path : goal.unreachable-requires-in_default-path
unreachable-requires-in_default-path c =
    let shot = c.args.snapshot.now in
    not_planned _ c.in-Some.flight.now c.in_default-path.field-0 (c.requires.named.flight_is ∙ sym c.in-Some.ensures) c.in_default-path.is
    (planned_there shot.setup (state_in_shot shot) c.args.who c.args.command.now c.requires.alters c.requires.passed)

pub alteration_by-alteration-requires-clause-sound : goal.alteration_by-alteration-requires-clause-sound
alteration_by-alteration-requires-clause-sound c =
    let it = planned_at c.args.snapshot.now c.args.slot c.in-Some.flight.now c.in-Planned.course c.in-Some-path.strand.now
    c.keeps.ensures.sound c.in-Some.ensures c.in-Some-path.ensures c.in-Planned.is in
    rw (c.rules.ensures.rules, c.tables.ensures) it.sound

pub alteration_by-alteration-requires-clause-strand : goal.alteration_by-alteration-requires-clause-strand
alteration_by-alteration-requires-clause-strand c =
    let it = planned_at c.args.snapshot.now c.args.slot c.in-Some.flight.now c.in-Planned.course c.in-Some-path.strand.now
    c.keeps.ensures.sound c.in-Some.ensures c.in-Some-path.ensures c.in-Planned.is in
    rw (c.rules.ensures.rules, c.tables.ensures) it.strand_is

pub alteration_by-alteration-requires-clause-bounded : goal.alteration_by-alteration-requires-clause-bounded
alteration_by-alteration-requires-clause-bounded c =
    rw c.in_ok-filled.ensures (filled_bounded_besides c.now-now.result c.args.command.now c.now-now.ensures.early c.requires.bounded)

pub alteration_by-alteration-requires-clause-can : goal.alteration_by-alteration-requires-clause-can
alteration_by-alteration-requires-clause-can c =
    let shot = c.args.snapshot.now in
    let flight = c.in-Some.flight.now in
    let named = found_named (state_in_shot shot).records _ flight (c.requires.named.flight_is ∙ sym c.in-Some.ensures) in
    rw (c.rules.ensures.rules, c.tables.ensures, c.in_ok-filled.ensures, c.now-now.ensures.now)
    (can_alter_filled shot.setup (state_in_shot shot) c.args.who c.args.command.now flight.call flight c.in-Planned.course
    c.requires.alters c.requires.passed named.0 named.1 c.in-Planned.is)

pub returns-clause-left : goal.returns-clause-left
returns-clause-left c =
    let shot = c.args.snapshot.now in
    let flight = c.in-Some.flight.now in
    let named = found_named (state_in_shot shot).records _ flight (c.requires.named.flight_is ∙ sym c.in-Some.ensures) in
    let by : IsAlterationBy shot.setup c.args.who (filled shot.now c.args.command.now) c.in-Planned.course c.alteration_by-alteration.result =
    rw (c.rules.ensures.rules, c.tables.ensures, c.in_ok-filled.ensures, c.now-now.ensures.now) at c.alteration_by-alteration.ensures in
    rw (c.alter.ensures, c.in_ok-altered.ensures)
    (left_altered shot.setup (state_in_shot shot) c.args.who c.args.command.now flight.call flight c.in-Planned.course
    (Planned (altered c.alteration_by-alteration.result c.in-Planned.course)) c.requires.alters c.requires.passed named.0 named.1 c.in-Planned.is by.path by.sound)

pub returns-clause-verdict : goal.returns-clause-verdict
returns-clause-verdict c =
    let shot = c.args.snapshot.now in
    let by : IsAlterationBy shot.setup c.args.who (filled shot.now c.args.command.now) c.in-Planned.course c.alteration_by-alteration.result =
    rw (c.rules.ensures.rules, c.tables.ensures, c.in_ok-filled.ensures, c.now-now.ensures.now) at c.alteration_by-alteration.ensures in
    c.verdict.ensures ∙ by.verdict
    ∙ verdict_named shot.setup (state_in_shot shot) shot.now c.args.command.now c.in-Some.flight.now c.in-Planned.course
    (c.requires.named.flight_is ∙ sym c.in-Some.ensures) c.in-Planned.is
