use Rattle.std.proofs.Common.{◌∙◌, codes, decimal, sym}
use Rattle.serde_json.specs.Data.{boolean}
use Rattle.serde_json.specs.Written.{compact_text}
use Rattle.mt_write.proofs.PlainText.{plain_name}
use Rattle.mt_write.proofs.PlanTexts.{back_text}
use Rattle.mt_write.proofs.Putting.{puts_is}
use Rattle.mt_write.proofs.ValueTexts.{made_of_seven}
use Rattle.mt_write.proofs.plan.put_plan_back.Goals as goal

pub returns : goal.returns
returns c =
    let a = c.args in
    puts_is c.put.result a.out.now c.put.new.out _ _
    (c.bytes.ensures ∙ made_of_seven (codes ",\"rvsm\":") (compact_text (boolean a.rvsm)) (codes ",\"type\":\"") a.kind.now (codes "\",\"who\":") (decimal a.who) (codes "}") _ _ _ _ _ _ _ _
    c.new-text.ensures c.prepend.ensures.added c.prepend_number.ensures.added c.prepend-2.ensures.added c.prepend_type.ensures.added c.prepend-3.ensures.added
    c.prepend_truth.ensures.added c.prepend-4.ensures.added
    ∙ back_text a.rvsm a.kind.now _ a.who (sym (plain_name 2 4 a.kind.now c.prepend_type.ensures.named)))
    c.put.ensures
