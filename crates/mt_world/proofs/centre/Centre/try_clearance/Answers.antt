use Rattle.std.proofs.Common.{◌<◌, arith}
use Rattle.std.proofs.lemmas.Grind.{common_steps}
use Rattle.mt_world.proofs.Tested.{tested_try}
use Rattle.mt_world.proofs.centre.Centre.try_clearance.Goals as goal

-- the snapshot is the one that the actor has taken
pub returns-clause-probe : goal.returns-clause-probe
returns-clause-probe c = grind (arith, common_steps)

pub returns-clause-kept : goal.returns-clause-kept
returns-clause-kept c = grind (arith, common_steps)

pub returns-clause-refused : goal.returns-clause-refused
returns-clause-refused c = grind (arith, common_steps)

pub returns-clause-tested : goal.returns-clause-tested
returns-clause-tested c =
    let below : c.args.who < 16 = omega (arith, c.requires.who) in
    rw (← c.self.view_is) (tested_try c.self.inside.areas c.self.inside.picture c.self.inside.actors.items c.args.who c.index.result.now c.self.invariant below
    c.index.ensures c.args.call c.args.clearance c.args.eff _ _ c.what_if.ensures.counted)
