use Rattle.std.proofs.Common.{Some, refl}
use Rattle.mt_probe.specs.Shot.{flight_at}
use Rattle.mt_probe.specs.Shot.{state_in_shot as state_in}
use Rattle.mt_picture.proofs.Passing.{aside_passes, few_entries, slot_there}
use Rattle.mt_picture.proofs.Remade.{put_bare, same_first}
use Rattle.mt_picture.proofs.entering.withdraw.Goals as goal

pub altered_flight-requires-clause-passed : goal.altered_flight-requires-clause-passed
altered_flight-requires-clause-passed c =
    let shot = c.args.held.now.snapshot in
    rw c.snapshot.ensures.value (aside_passes shot.setup (state_in shot) c.args.who c.keeps.ensures.sound.rules c.args.command.now c.requires.passed)

pub kept_flight-requires-clause-counted : goal.kept_flight-requires-clause-counted
kept_flight-requires-clause-counted c =
    let shot = c.args.held.now.snapshot in
    few_entries shot.setup (state_in shot) c.args.who c.keeps.ensures.sound.rules c.args.command.now c.requires.passed

pub kept_flight-requires-clause-there : goal.kept_flight-requires-clause-there
kept_flight-requires-clause-there c =
    let left = rw c.snapshot.ensures.value at c.in_ok-card.ensures.left in
    slot_there c.args.held.now.snapshot c.args.command.now c.args.slot c.in_ok-card.field-0.card.call c.requires.named left.call_is

pub change_bare-requires : goal.change_bare-requires
change_bare-requires c =
    let left = rw c.snapshot.ensures.value at c.in_ok-card.ensures.left in
    let shot = c.args.held.now.snapshot in
    let there = slot_there shot c.args.command.now c.args.slot c.in_ok-card.field-0.card.call c.requires.named left.call_is in
    (put_bare shot c.args.slot c.in_ok-card.field-0.card c.in_ok-flight.flight c.args.who c.args.command.now c.keeps.ensures.sound there c.requires.withdraws left
    c.in_ok-flight.ensures).inside

pub put-requires-clause-change : goal.put-requires-clause-change
put-requires-clause-change c =
    c.in_ok-change.ensures _ (same_first (Some c.in_ok-flight.flight) (flight_at c.args.held.now.snapshot c.args.slot) c.in_ok-flight.ensures.actual) refl

pub put-requires-clause-counted : goal.put-requires-clause-counted
put-requires-clause-counted c =
    let shot = c.args.held.now.snapshot in
    few_entries shot.setup (state_in shot) c.args.who c.keeps.ensures.sound.rules c.args.command.now c.requires.passed

pub put-requires-clause-put : goal.put-requires-clause-put
put-requires-clause-put c =
    let shot = c.args.held.now.snapshot in
    let left = rw c.snapshot.ensures.value at c.in_ok-card.ensures.left in
    let there = slot_there shot c.args.command.now c.args.slot c.in_ok-card.field-0.card.call c.requires.named left.call_is in
    rw c.in_ok-entry.ensures.entry (put_bare shot c.args.slot c.in_ok-card.field-0.card c.in_ok-flight.flight c.args.who c.args.command.now
    c.keeps.ensures.sound there c.requires.withdraws left c.in_ok-flight.ensures)
