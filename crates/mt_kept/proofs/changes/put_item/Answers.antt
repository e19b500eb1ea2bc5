use Rattle.mt_kept.proofs.Keeping.{map_set}
use Rattle.mt_kept.proofs.changes.put_item.Goals as goal

pub returns-clause-put : goal.returns-clause-put
returns-clause-put c = map_set c.args.places.now c.args.change.place c.args.change.item
