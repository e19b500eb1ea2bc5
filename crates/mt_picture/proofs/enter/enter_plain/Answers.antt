use Rattle.std.proofs.Common.{refl, arith}
use Rattle.mt_probe.specs.Shot.{state_in_shot as state_in}
use Rattle.mt_picture.proofs.Passing.{few_entries, tick_later}
use Rattle.mt_picture.proofs.Ticking.{ticked}
use Rattle.mt_picture.proofs.enter.enter_plain.Goals as goal

pub tick-requires-clause-counted : goal.tick-requires-clause-counted
tick-requires-clause-counted c =
    let shot = c.args.held.now.snapshot in
    few_entries shot.setup (state_in shot) c.args.who c.keeps.ensures.sound.rules c.args.command.now c.requires.passed

pub tick-requires-clause-later : goal.tick-requires-clause-later
tick-requires-clause-later c =
    let shot = c.args.held.now.snapshot in
    let ticks = rw c.in-Tick.is at c.requires.effect.does in
    let later = tick_later shot.setup (state_in shot) c.args.who c.keeps.ensures.sound.rules c.in-Tick.now (rw ticks at c.requires.passed) in
    omega (arith, later)

pub returns-in_err-tick-in-Tick-clause-counted : goal.returns-in_err-tick-in-Tick-clause-counted
returns-in_err-tick-in-Tick-clause-counted c =
    let shot = c.args.held.now.snapshot in
    let ticks = rw c.in-Tick.is at c.requires.effect.does in
    rw ticks (ticked shot c.keeps.ensures.sound (record { setup = shot.setup; history = c.args.held.now.history }) c.in-Tick.now _ _ refl
    c.keeps.ensures.picture.stands c.tick.ensures.counted)

pub returns-in_ok-tick-in-Tick-clause-counted : goal.returns-in_ok-tick-in-Tick-clause-counted
returns-in_ok-tick-in-Tick-clause-counted c =
    let shot = c.args.held.now.snapshot in
    let ticks = rw c.in-Tick.is at c.requires.effect.does in
    rw ticks (ticked shot c.keeps.ensures.sound (record { setup = shot.setup; history = c.args.held.now.history }) c.in-Tick.now _ _ refl
    c.keeps.ensures.picture.stands c.tick.ensures.counted)
