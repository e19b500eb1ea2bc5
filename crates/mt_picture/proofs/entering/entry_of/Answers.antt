use Rattle.mt_picture.proofs.Completed.{complete_entry}
use Rattle.mt_picture.proofs.entering.entry_of.Goals as goal

pub returns-clause-complete : goal.returns-clause-complete
returns-clause-complete c =
    let shot = c.args.held.now.snapshot in
    rw (c.in_ok-command.ensures, c.now.ensures.now, c.snapshot.ensures.value) (complete_entry c.args.who shot.now c.args.command.now c.keeps-2.ensures c.requires c.keeps.ensures.sound.early c.ranges.who.fits)
