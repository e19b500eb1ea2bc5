use Rattle.mt_area.proofs.Volumes.{HoldsRow-wider}
use Rattle.mt_area.proofs.volume.volume_between.Goals as goal

pub returns-clause-row : goal.returns-clause-row
returns-clause-row c = HoldsRow-wider c.grown.result c.grown-2.result c.args.row.now c.grown-2.ensures.wider c.grown.ensures.holds
