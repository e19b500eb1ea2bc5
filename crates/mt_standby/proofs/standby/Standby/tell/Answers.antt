use Rattle.std.proofs.Common.{[], replicate}
use Rattle.mt_world.specs.World.{new_actor}
use Rattle.mt_standby.proofs.standby.Standby.tell.Goals as goal

pub returns-clause-told : goal.returns-clause-told
returns-clause-told g c = rw (← c.self.view_is) (c.tell.ensures.told [] (replicate 16 new_actor) 0)
