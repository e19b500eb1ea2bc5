-- No public contract names these: they are of private steps and of proofs.
use Rattle.mt_json.specs.View.{view}
use Rattle.mt_read.specs.declared.corners.PairValues.{PairValues}
use Rattle.mt_read.specs.Corners.{Pair}

-- two values that are lent, as what they are
abbrev pub pair_shown : PairValues → Pair
pair_shown p = record { east = view p.east.now; north = view p.north.now }
