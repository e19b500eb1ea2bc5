use Rattle.std.proofs.Common.{ℕ, [], ◌∷◌, ◌∙◌, codes, decimal, refl, sym, ap}
use Rattle.mt_write.specs.Reply.{kind_letter}
use Rattle.mt_write.proofs.PlainText.{plain_name}
use Rattle.mt_write.proofs.Putting.{puts_is}
use Rattle.mt_write.proofs.ValueTexts.{made_of_eleven, pierced_text, plain_kind}
use Rattle.mt_write.proofs.pierced.PiercedWritten.put.Goals as goal

pub returns : goal.returns
returns c =
    let s = c.args.self.now in
    puts_is c.put.result c.args.out.now c.put.new.out _ _
    (c.bytes.ensures ∙ made_of_eleven (codes "{\"area\":\"") s.area (codes "\",\"call\":\"") s.call (codes "\",\"first\":") (decimal s.first) (codes ",\"kind\":\"")
    (c.letter.result ∷ []) (codes "\",\"last\":") (decimal s.last) (codes "}") _ _ _ _ _ _ _ _ _ _ _ _ c.new-text.ensures c.prepend.ensures.added
    c.prepend_number.ensures.added c.prepend-2.ensures.added c.prepend-3.ensures.added c.prepend-4.ensures.added c.prepend_number-2.ensures.added
    c.prepend-5.ensures.added c.prepend_callsign.ensures.added c.prepend-6.ensures.added c.prepend_fix.ensures.added c.prepend-7.ensures.added
    ∙ pierced_text s.first s.last s.area s.call (kind_letter s.kind ∷ []) _ _ _ _ _ (sym (plain_name 2 5 s.area c.prepend_fix.ensures.named))
    (sym (plain_name 1 7 s.call c.prepend_callsign.ensures.named)) (ap (λ (x : ℕ). x ∷ []) c.letter.ensures ∙ plain_kind s.kind) refl refl)
    c.put.ensures
