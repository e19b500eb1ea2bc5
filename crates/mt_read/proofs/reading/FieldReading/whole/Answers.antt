use Rattle.std.proofs.Common.{refl, ap, pos, unwrap_or, w64, ◌∙◌}
use Rattle.std.proofs.Math.Facts.{to_z-of_z}
use Rattle.mt_base.specs.Checks.{check_answer}
use Rattle.mt_json.specs.Shown.{members}
use Rattle.mt_read.specs.Field.{bound, number}
use Rattle.mt_read.proofs.ReadingLemmas.{one}
use Rattle.mt_read.proofs.reading.FieldReading.whole.Goals as goal

pub returns : goal.returns
returns c =
    one c.number.ensures.goes refl (λ i. check_answer (bound c.args.key (to_z-of_z c.ranges.low i) (to_z-of_z c.ranges.high i) (number c.args.key
    (members c.args.self.now.fields)))) (λ e. to_z-of_z {w = w64} (record { sfits = c.unwrap_or.type_inv }) ∙ c.unwrap_or.ensures ∙ ap (λ o.
    unwrap_or o (pos 0)) e)
