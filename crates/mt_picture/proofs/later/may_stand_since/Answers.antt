use Rattle.mt_picture.proofs.Newer.{none_by_entries}
use Rattle.mt_picture.proofs.later.may_stand_since.Goals as goal

pub returns-else-since-from : goal.returns-else-since-from
returns-else-since-from c = λ is. none_by_entries c.args.snapshot.now.setup c.args.history.now c.args.snapshot.now.slots c.args.version c.requires (c.is_one_made.ensures is)
