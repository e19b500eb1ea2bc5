use Rattle.std.proofs.Common.{not, ◌∙◌, ap}
use Rattle.mt_kept.proofs.Keeping.{any_changed}
use Rattle.mt_kept.proofs.lists.is_elsewhere.Goals as goal

pub returns : goal.returns
returns c = ap not (c.is_changed.ensures ∙ any_changed c.args.changes.now c.args.pair.now.edge)
