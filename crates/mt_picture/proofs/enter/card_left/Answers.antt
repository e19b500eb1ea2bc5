use Rattle.std.proofs.Common.{◌∙◌, subst, sym}
use Rattle.std.proofs.lemmas.Result.{IfOk-weaker}
use Rattle.mt_probe.specs.Prepared.{IsLeftByEntry}
use Rattle.mt_probe.specs.Shot.{state_in_shot as state_in}
use Rattle.mt_picture.proofs.Leaving.{left_now}
use Rattle.mt_picture.proofs.Passing.{aside_passes}
use Rattle.mt_picture.proofs.enter.card_left.Goals as goal

pub left_of-requires-clause-passed : goal.left_of-requires-clause-passed
left_of-requires-clause-passed c =
    let shot = c.args.held.now.snapshot in
    rw c.snapshot-snapshot.ensures.value (aside_passes shot.setup (state_in shot) c.args.who c.keeps.ensures.sound.rules c.args.command.now c.requires.passed)

pub returns-then-version : goal.returns-then-version
returns-then-version c =
    let shot = c.args.held.now.snapshot in
    let same = sym c.version.ensures.version ∙ c.if-version.true ∙ rw c.snapshot-snapshot.ensures.value at c.version-2.ensures.version in
    let passes = aside_passes shot.setup (state_in shot) c.args.who c.keeps.ensures.sound.rules c.args.command.now c.requires.passed in
    let left = left_now shot c.args.held.now.history c.args.who c.args.command.now c.args.prep.now c.keeps.ensures.picture.stands c.requires.prepared c.version.ensures.kept
    same passes in
    IfOk-weaker c.copy.result _ _ (λ card is. subst (IsLeftByEntry shot.setup (state_in shot) c.args.who c.args.command.now) (sym (is ∙ c.card.ensures)) left) c.copy.ensures
