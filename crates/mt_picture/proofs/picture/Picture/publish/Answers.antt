use Rattle.std.proofs.Common.{refl, option_copied}
use Rattle.mt_base.specs.declared.command.Entered.{Entered}
use Rattle.mt_picture.specs.Private.Holding.{held_story}
use Rattle.mt_picture.proofs.Bounding.{none_within}
use Rattle.mt_picture.proofs.Published.{entered_now, legal_after, refused_now, replayable_after, stale_now}
use Rattle.mt_picture.proofs.picture.Picture.publish.Goals as goal

pub returns-in-Err-clause-refused : goal.returns-in-Err-clause-refused
returns-in-Err-clause-refused c =
    let p = c.self.inside.held in
    let value = c.snapshot-snapshot.ensures.value in
    rw (← c.self.view_is) (refused_now p.snapshot p.history c.args.who c.args.command.now c.in-Err.refusal c.version-version.result
    c.snapshot-snapshot.ensures.stands (rw value at c.in-Err.ensures.refused) (rw value at c.version-version.ensures.version))

pub returns-in-Stopped-clause-refused : goal.returns-in-Stopped-clause-refused
returns-in-Stopped-clause-refused c =
    let p = c.self.inside.held in
    let value = c.snapshot-snapshot.ensures.value in
    let stopped = rw c.in-Stopped.is at c.in_ok-verdict.ensures.entered in
    rw (← c.self.view_is) (stale_now p.snapshot p.history c.args.who c.args.command.now c.in-Stopped.hit c.version-version.result
    c.snapshot-snapshot.ensures.stands (rw value at c.in-Ok.ensures.passed) stopped.hits (rw value at c.version-version.ensures.version))

pub returns-clause-entered : goal.returns-clause-entered
returns-clause-entered c =
    let value = c.snapshot-snapshot.ensures.value in
    let entered = rw c.in-Entered.is at c.in_ok-verdict.ensures.entered in
    let verdict = rw c.in-Entered.is at c.in_ok-verdict.ensures.verdict in
    rw (← c.self.view_is) (entered_now c.self.inside.held c.enter.new.held c.args.who c.args.command.now c.version.result c.in-Entered.verdict
    c.snapshot-snapshot.ensures.stands (rw value at c.in-Ok.ensures.passed) entered c.snapshot.ensures.stands
    (rw c.snapshot.ensures.value at c.version.ensures.version) verdict)

pub returns-in-Err-clause-counted : goal.returns-in-Err-clause-counted
returns-in-Err-clause-counted c = none_within c.args.self.now c.args.who c.args.command.now (option_copied c.args.prep) c.args.tests.now c.args.tests.now refl

pub returns-clause-replayable : goal.returns-clause-replayable
returns-clause-replayable c =
    let value = c.snapshot-snapshot.ensures.value in
    let entered = rw c.in-Entered.is at c.in_ok-verdict.ensures.entered in
    let verdict = rw c.in-Entered.is at c.in_ok-verdict.ensures.verdict in
    let answer : Entered = record { version = c.version.result; verdict = c.in-Entered.verdict } in
    rw (← c.self.view_is) (replayable_after (held_story c.self.inside.held) (held_story c.enter.new.held) c.args.who c.args.command.now answer
    (rw (← c.self.view_is) at c.requires.in_time)
    (entered_now c.self.inside.held c.enter.new.held c.args.who c.args.command.now c.version.result c.in-Entered.verdict
    c.snapshot-snapshot.ensures.stands (rw value at c.in-Ok.ensures.passed) entered c.snapshot.ensures.stands
    (rw c.snapshot.ensures.value at c.version.ensures.version) verdict))

pub returns-clause-legal : goal.returns-clause-legal
returns-clause-legal c =
    let value = c.snapshot-snapshot.ensures.value in
    let entered = rw c.in-Entered.is at c.in_ok-verdict.ensures.entered in
    let verdict = rw c.in-Entered.is at c.in_ok-verdict.ensures.verdict in
    let answer : Entered = record { version = c.version.result; verdict = c.in-Entered.verdict } in
    rw (← c.self.view_is) (legal_after (held_story c.self.inside.held) (held_story c.enter.new.held) c.args.who c.args.command.now answer
    (rw (← c.self.view_is) at c.requires.in_time)
    (entered_now c.self.inside.held c.enter.new.held c.args.who c.args.command.now c.version.result c.in-Entered.verdict
    c.snapshot-snapshot.ensures.stands (rw value at c.in-Ok.ensures.passed) entered c.snapshot.ensures.stands
    (rw c.snapshot.ensures.value at c.version.ensures.version) verdict))

pub enter-requires-clause-bounded : goal.enter-requires-clause-bounded
enter-requires-clause-bounded c = c.requires.bounded

pub enter-requires-clause-prepared : goal.enter-requires-clause-prepared
enter-requires-clause-prepared c = rw (← c.self.view_is) at c.requires.prepared

pub enter-requires-clause-passed : goal.enter-requires-clause-passed
enter-requires-clause-passed c = rw c.snapshot-snapshot.ensures.value at c.in-Ok.ensures.passed

pub enter-requires-clause-effect : goal.enter-requires-clause-effect
enter-requires-clause-effect c = rw c.snapshot-snapshot.ensures.value at c.in-Ok.ensures.effect

pub returns-in-Stopped-clause-counted : goal.returns-in-Stopped-clause-counted
returns-in-Stopped-clause-counted c = rw (← c.self.view_is) c.in_ok-verdict.ensures.counted
