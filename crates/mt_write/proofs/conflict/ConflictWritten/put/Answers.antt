use Rattle.std.proofs.Common.{ℕ, [], ◌∷◌, ◌∙◌, codes, decimal, refl, sym, ap₂}
use Rattle.mt_write.specs.Reply.{kind_letter}
use Rattle.mt_write.proofs.PlainText.{plain_name}
use Rattle.mt_write.proofs.Putting.{puts_is}
use Rattle.mt_write.proofs.ValueTexts.{conflict_text, made_of_eleven, plain_kinds}
use Rattle.mt_write.proofs.conflict.ConflictWritten.put.Goals as goal

pub returns : goal.returns
returns c =
    let s = c.args.self.now in
    let letters = kind_letter s.ka ∷ kind_letter s.kb ∷ [] in
    puts_is c.put.result c.args.out.now c.put.new.out _ _
    (c.bytes.ensures ∙ made_of_eleven (codes "{\"first\":") (decimal s.first) (codes ",\"kinds\":\"") (c.letter.result ∷ c.letter-2.result ∷ []) (codes "\",\"last\":") (decimal s.last) (codes ",\"pair\":[\"") s.a
    (codes "\",\"") s.b (codes "\"]}") _ _ _ _ _ _ _ _ _ _ _ _ c.new-text.ensures c.prepend.ensures.added c.prepend_callsign.ensures.added c.prepend-2.ensures.added
    c.prepend_callsign-2.ensures.added c.prepend-3.ensures.added c.prepend_number.ensures.added c.prepend-4.ensures.added c.prepend-5.ensures.added c.prepend-6.ensures.added
    c.prepend_number-2.ensures.added c.prepend-7.ensures.added
    ∙ conflict_text s.first s.last letters s.a s.b _ _ _ _ _ (ap₂ (λ (x y : ℕ). x ∷ y ∷ []) c.letter.ensures c.letter-2.ensures ∙ plain_kinds s.ka s.kb)
    (sym (plain_name 1 7 s.a c.prepend_callsign-2.ensures.named)) (sym (plain_name 1 7 s.b c.prepend_callsign.ensures.named)) refl refl)
    c.put.ensures
