use Rattle.mt_tables.proofs.Lists.{ceiling_last}
use Rattle.mt_tables.proofs.bands.ceiling_of.Goals as goal

pub returns : goal.returns
returns c = ceiling_last c.args.bands.now _ c.requires.some
