use Rattle.std.proofs.Common.{Ok, ◌++◌, ◌∙◌, ap, codes}
use Rattle.mt_write.proofs.Putting.{puts_is, puts_then}
use Rattle.mt_write.proofs.verdict.put_judged.Goals as goal

pub returns : goal.returns
returns c =
    puts_then c.put-2.result c.args.out.now c.put.new.out c.put-2.new.out _ _ (puts_then (Ok tt) c.args.out.now c.put_all.new.out c.put.new.out _ _
    (puts_is (Ok tt) c.args.out.now c.put_all.new.out _ _ (ap (λ digits. codes "{\"entered\":" ++ (digits ++ codes ",\"verdict\":"))
    (c.as_bytes.ensures.value ∙ c.format.ensures.text)) c.in_ok-put_all.ensures) c.in_ok-put.ensures) c.put-2.ensures
