use Rattle.mt_area.proofs.Tellings.{told_at}
use Rattle.mt_area.proofs.telling.fn.tell_each.for_each_mut.Goals as goal

pub returns : goal.returns
returns c =
    told_at c.captures.now c.captures.areas.now c.captures.items.now c.args.i c.index-items-i.result c.passages.result c.requires.2 c.index-items-i.is c.passages.ensures
