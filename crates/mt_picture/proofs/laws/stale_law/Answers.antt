use Rattle.mt_picture.proofs.Since.{since_probe}
use Rattle.mt_picture.proofs.laws.stale_law.Goals as goal

pub returns : goal.returns
returns c = since_probe
