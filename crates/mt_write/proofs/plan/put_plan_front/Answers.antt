use Rattle.std.proofs.Common.{◌∙◌, codes, decimal, sym}
use Rattle.mt_write.proofs.PlainText.{plain_name}
use Rattle.mt_write.proofs.PlanTexts.{front_text, made_of_nine}
use Rattle.mt_write.proofs.Putting.{puts_is}
use Rattle.mt_write.proofs.plan.put_plan_front.Goals as goal

pub returns : goal.returns
returns c =
    let a = c.args in
    puts_is c.put.result a.out.now c.put.new.out _ _
    (c.bytes.ensures ∙ made_of_nine (codes "{\"at\":") (decimal a.at) (codes ",\"call\":\"") a.call.now (codes "\",\"do\":\"plan\",\"from\":") (decimal a.from) (codes ",\"level\":") (decimal a.level)
    (codes ",\"route\":") _ _ _ _ _ _ _ _ _ _ c.new-text.ensures c.prepend.ensures.added c.prepend_number.ensures.added c.prepend-2.ensures.added c.prepend_number-2.ensures.added
    c.prepend-3.ensures.added c.prepend_callsign.ensures.added c.prepend-4.ensures.added c.prepend_number-3.ensures.added c.prepend-5.ensures.added
    ∙ front_text a.at a.from a.level a.call.now _ (sym (plain_name 1 7 a.call.now c.prepend_callsign.ensures.named)))
    c.put.ensures
