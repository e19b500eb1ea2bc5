use Rattle.std.proofs.Common.{Some}
use Rattle.mt_probe.specs.Shot.{flight_at}
use Rattle.mt_probe.specs.Shot.{state_in_shot as state_in}
use Rattle.mt_picture.proofs.Passing.{aside_passes, few_entries, slot_there}
use Rattle.mt_picture.proofs.Remade.{put_report, same_first, same_second}
use Rattle.mt_picture.proofs.entering.report.Goals as goal

pub altered_flight-requires-clause-passed : goal.altered_flight-requires-clause-passed
altered_flight-requires-clause-passed c =
    let shot = c.args.held.now.snapshot in
    rw c.snapshot.ensures.value (aside_passes shot.setup (state_in shot) c.args.who c.keeps.ensures.sound.rules c.args.command.now c.requires.passed)

pub kept_flight-requires-clause-counted : goal.kept_flight-requires-clause-counted
kept_flight-requires-clause-counted c =
    let shot = c.args.held.now.snapshot in
    few_entries shot.setup (state_in shot) c.args.who c.keeps.ensures.sound.rules c.args.command.now c.requires.passed

pub kept_flight-requires-clause-there : goal.kept_flight-requires-clause-there
kept_flight-requires-clause-there c =
    let left = rw c.snapshot.ensures.value at c.in_ok-card.ensures.left in
    slot_there c.args.held.now.snapshot c.args.command.now c.args.slot c.in_ok-card.field-0.card.call c.requires.named left.call_is

pub put_card-requires-clause-counted : goal.put_card-requires-clause-counted
put_card-requires-clause-counted c =
    let shot = c.args.held.now.snapshot in
    few_entries shot.setup (state_in shot) c.args.who c.keeps.ensures.sound.rules c.args.command.now c.requires.passed

pub put_card-requires-clause-put : goal.put_card-requires-clause-put
put_card-requires-clause-put c =
    let shot = c.args.held.now.snapshot in
    let left = rw c.snapshot.ensures.value at c.in_ok-card.ensures.left in
    let there = slot_there shot c.args.command.now c.args.slot c.in_ok-card.field-0.card.call c.requires.named left.call_is in
    rw c.in_ok-entry.ensures.entry (put_report shot c.args.slot c.in_ok-card.field-0.card c.in_ok-flight.flight c.args.who c.args.command.now
    c.keeps.ensures.sound there c.requires.reports left c.in_ok-flight.ensures)

pub put_card-requires-clause-first : goal.put_card-requires-clause-first
put_card-requires-clause-first c = same_first (Some c.in_ok-flight.flight) (flight_at c.args.held.now.snapshot c.args.slot) c.in_ok-flight.ensures.actual

pub put_card-requires-clause-second : goal.put_card-requires-clause-second
put_card-requires-clause-second c = same_second (Some c.in_ok-flight.flight) (flight_at c.args.held.now.snapshot c.args.slot) c.in_ok-flight.ensures.mark
