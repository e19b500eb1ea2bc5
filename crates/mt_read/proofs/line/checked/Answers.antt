use Rattle.std.proofs.Common.{ap, sym, ◌∙◌}
use Rattle.mt_json.specs.Shown.{members}
use Rattle.mt_read.specs.declared.origin.Origin.TheVariants.{Line}
use Rattle.mt_read.specs.Line.{checked}
use Rattle.mt_read.specs.Private.FieldReading.{standing}
use Rattle.mt_read.specs.Table.{layout_of}
use Rattle.mt_read.proofs.ReadingLemmas.{read_is, standing_is, stops}
use Rattle.mt_read.proofs.line.checked.Goals as goal

pub returns-in_err-faults : goal.returns-in_err-faults
returns-in_err-faults c =
    let ms = members c.args.fields.now in
    stops c.from_residual-in_err-faults.result c.in_err-faults.field-0.0 _ c.from_residual-in_err-faults.ensures.1 (ap (λ more. checked (Line
    c.args.sender) more (layout_of c.args.word) ms) (sym (standing_is c.args.word c.args.rules.now ms)) ∙ read_is _ _ _ _ _ _ (layout_of c.args.word)
    (standing c.args.rules.now) _ _ _ c.of-reading.ensures c.in_ok-asked.ensures c.actor-who.ensures c.stand.ensures c.in_err-faults.ensures)

pub returns : goal.returns
returns c =
    let ms = members c.args.fields.now in
    ap (λ more. checked (Line c.args.sender) more (layout_of c.args.word) ms) (sym (standing_is c.args.word c.args.rules.now ms)) ∙ read_is _ _ _ _ _ _
    (layout_of c.args.word) (standing c.args.rules.now) _ _ _ c.of-reading.ensures c.in_ok-asked.ensures c.actor-who.ensures c.stand.ensures
    c.in_ok-faults.ensures
