use Rattle.mt_names.proofs.Splitting.{found_none}
use Rattle.mt_names.proofs.row.NamedRow.find.Goals as goal

pub returns-else-first-behind : goal.returns-else-first-behind
returns-else-first-behind c = found_none c.args.self.now c.args.call c.split-first.result c.split-first.ensures c.if-first-behind.false
