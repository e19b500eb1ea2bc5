use Rattle.std.proofs.Common.{◌+◌}
use Rattle.mt_kept.proofs.Merged.{absent_parted, found_parted, rear}
use Rattle.mt_kept.proofs.merging.parted.Goals as goal

pub returns-in-Ok : goal.returns-in-Ok
returns-in-Ok c =
    let list = c.args.list.now in
    let x = c.args.conflict.now in
    rw (rear list (c.in-Ok.place + 1)) (found_parted list x c.in-Ok.place c.requires c.in-Ok.ensures.bound c.in-Ok.ensures.position)

pub returns-in-Err : goal.returns-in-Err
returns-in-Err c =
    let list = c.args.list.now in
    let x = c.args.conflict.now in
    rw (rear list c.in-Err.place) (absent_parted list x c.in-Err.place c.requires c.in-Err.ensures.bound c.in-Err.ensures.position)
