use Rattle.std.proofs.Common.{refl}
use Rattle.mt_json.specs.Shown.{members}
use Rattle.mt_read.proofs.ReadingLemmas.{counted, one}
use Rattle.mt_read.proofs.reading.FieldReading.count.Goals as goal

pub returns-clause-reads : goal.returns-clause-reads
returns-clause-reads c = one c.natural.ensures.goes refl refl (counted c.args.key (members c.args.self.now.fields) _ _ c.unwrap_or.ensures)
