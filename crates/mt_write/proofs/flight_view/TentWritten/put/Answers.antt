use Rattle.std.proofs.Common.{◌∙◌}
use Rattle.mt_write.proofs.Putting.{puts_is}
use Rattle.mt_write.proofs.ValueTexts.{tent_text}
use Rattle.mt_write.proofs.flight_view.TentWritten.put.Goals as goal

pub returns : goal.returns
returns c =
    puts_is c.put_all.result c.args.out.now c.put_all.new.out _ _
    (tent_text c.args.self.now _ _ _ (c.as_bytes.ensures.value ∙ c.format.ensures.text) (c.as_bytes-2.ensures.value ∙ c.format-2.ensures.text) (c.as_bytes-3.ensures.value ∙ c.format-3.ensures.text))
    c.put_all.ensures
