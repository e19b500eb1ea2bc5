use Rattle.std.proofs.Common.{refl, ap, true}
use Rattle.mt_base.specs.Checks.{check_answer}
use Rattle.mt_json.specs.Field.{as_whole}
use Rattle.mt_json.specs.Shown.{members}
use Rattle.mt_read.specs.declared.key.Key.TheVariants as key
use Rattle.mt_read.specs.Field.{form_check, is_of}
use Rattle.mt_read.proofs.ReadingLemmas.{counted, one}
use Rattle.mt_read.proofs.reading.FieldReading.level.Goals as goal

pub returns : goal.returns
returns c =
    one c.natural.ensures.goes (ap (λ l. check_answer (form_check key.Level l true (is_of as_whole) (members c.args.self.now.fields)))
    c.stands-may_lack.ensures) refl (counted key.Level (members c.args.self.now.fields) _ _ c.unwrap_or.ensures)
