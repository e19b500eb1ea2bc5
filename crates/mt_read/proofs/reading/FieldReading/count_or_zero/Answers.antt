use Rattle.std.proofs.Common.{refl}
use Rattle.mt_json.specs.Shown.{members}
use Rattle.mt_read.proofs.ReadingLemmas.{counted, may_lack_in, one}
use Rattle.mt_read.proofs.reading.FieldReading.count_or_zero.Goals as goal

pub returns : goal.returns
returns c =
    one c.natural.ensures.goes (may_lack_in c.args.self.now.origin _ _ _ _ c.is_line.ensures) refl (counted c.args.key (members
    c.args.self.now.fields) _ _ c.unwrap_or.ensures)
