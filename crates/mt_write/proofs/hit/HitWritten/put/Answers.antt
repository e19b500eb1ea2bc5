use Rattle.std.proofs.Common.{◌∙◌, codes, decimal, refl, sym}
use Rattle.mt_write.proofs.PlainText.{plain_name}
use Rattle.mt_write.proofs.Putting.{puts_is}
use Rattle.mt_write.proofs.ValueTexts.{hit_text, made_of_seven}
use Rattle.mt_write.proofs.hit.HitWritten.put.Goals as goal

pub returns : goal.returns
returns c =
    let hit = c.args.self.now in
    puts_is c.put.result c.args.out.now c.put.new.out _ _
    (c.bytes.ensures ∙ made_of_seven (codes "{\"first\":") (decimal hit.first) (codes ",\"last\":") (decimal hit.last) (codes ",\"with\":\"") hit.with (codes "\"}") _ _ _ _ _ _ _ _
    c.new-text.ensures c.prepend.ensures.added c.prepend_callsign.ensures.added c.prepend-2.ensures.added c.prepend_number.ensures.added c.prepend-3.ensures.added
    c.prepend_number-2.ensures.added c.prepend-4.ensures.added
    ∙ hit_text hit _ _ _ refl refl (sym (plain_name 1 7 hit.with c.prepend_callsign.ensures.named)))
    c.put.ensures
