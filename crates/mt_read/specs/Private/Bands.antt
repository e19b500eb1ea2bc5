-- No public contract names these: they are of private steps and of proofs.
use Rattle.mt_json.specs.View.{view}
use Rattle.mt_read.specs.declared.bands.FourValues.{FourValues}
use Rattle.mt_read.specs.Bands.{Four}

-- four values that are lent, as what they are
abbrev pub four_shown : FourValues → Four
four_shown f = record { top = view f.top.now; speed = view f.speed.now; climb = view f.climb.now; descent = view f.descent.now }
