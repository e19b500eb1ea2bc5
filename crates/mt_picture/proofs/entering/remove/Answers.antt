use Rattle.std.proofs.Common.{None}
use Rattle.mt_probe.specs.Shot.{state_in_shot as state_in}
use Rattle.mt_picture.proofs.Effected.{taken_by}
use Rattle.mt_picture.proofs.Moved.{put_inside}
use Rattle.mt_picture.proofs.Passing.{few_entries}
use Rattle.mt_picture.proofs.entering.remove.Goals as goal

pub put-requires-clause-counted : goal.put-requires-clause-counted
put-requires-clause-counted c =
    let shot = c.args.held.now.snapshot in
    few_entries shot.setup (state_in shot) c.args.who c.keeps.ensures.sound.rules c.args.command.now c.requires.passed

pub put-requires-clause-put : goal.put-requires-clause-put
put-requires-clause-put c =
    rw c.in_ok-entry.ensures.entry (taken_by c.args.held.now.snapshot c.args.slot c.args.who c.args.command.now c.requires.drops c.requires.named)

pub change_none-requires : goal.change_none-requires
change_none-requires c =
    let shot = c.args.held.now.snapshot in
    put_inside shot c.args.slot None _ (taken_by shot c.args.slot c.args.who c.args.command.now c.requires.drops c.requires.named)
