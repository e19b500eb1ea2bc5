use Rattle.mt_world.proofs.Told.{told_or}
use Rattle.mt_world.proofs.centre.Centre.tell.Goals as goal

pub returns-clause-told : goal.returns-clause-told
returns-clause-told g c = λ who.
    rw (← c.self.view_is) (told_or _ who c.args.ask.now c.tell.result (c.tell.ensures.told c.self.inside.areas _ who))
