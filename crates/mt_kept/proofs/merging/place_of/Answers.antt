use Rattle.std.proofs.Common.{take, arith}
use Rattle.std.specs.declared.result.Result.TheVariants.{Err, Ok}
use Rattle.mt_kept.proofs.InOrder.{searched}
use Rattle.mt_kept.proofs.Merged.{head_absent, head_found}
use Rattle.mt_kept.proofs.merging.place_of.Goals as goal

pub returns-in-Ok-clause-position : goal.returns-in-Ok-clause-position
returns-in-Ok-clause-position c =
    head_found c.min-head.result c.args.list.now c.args.conflict.now c.in-Ok.place c.in-Ok.ensures.bound
    (searched (take c.min-head.result c.args.list.now) c.args.conflict.now (Ok c.in-Ok.place) c.in-Ok.ensures.position)

pub returns-then-place-head-clause-position : goal.returns-then-place-head-clause-position
returns-then-place-head-clause-position c =
    let list = c.args.list.now in
    let x = c.args.conflict.now in
    head_absent c.min-head.result list x c.in-Err.place c.requires c.if-place-head.true (let least = c.min-head.ensures in omega arith)
    (searched (take c.min-head.result list) x (Err c.in-Err.place) c.in-Err.ensures.position)

pub returns-else-place-head-clause-position : goal.returns-else-place-head-clause-position
returns-else-place-head-clause-position c =
    searched c.args.list.now c.args.conflict.now c.binary_search-else-place-head.result c.binary_search-else-place-head.ensures.position
