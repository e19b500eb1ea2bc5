use Rattle.mt_world.proofs.Told.{read_told}
use Rattle.mt_world.proofs.reading.tell.Goals as goal

pub returns-clause-told : goal.returns-clause-told
returns-clause-told g c = λ areas actors who.
    rw c.told.ensures.reply (read_told c.args.picture.now areas actors c.args.ask.now c.read.result c.read.ensures.told c.read.ensures.untold)
