use Rattle.std.proofs.Common.{◌∙◌, ap, sym, arith}
use Rattle.std.specs.Int.{w64, from_be_bytes}
use Rattle.mt_base.specs.Private.Padded.{letters_in, name_number}
use Rattle.mt_base.proofs.NameLemmas.{fits}
use Rattle.mt_base.proofs.NameOrder.{number_is}
use Rattle.mt_base.proofs.name.Name.number.Goals as goal

pub returns-clause-number : goal.returns-clause-number
returns-clause-number c =
    let kept = c.self.invariant in
    let text = letters_in c.self.inside.form in
    c.from_be_bytes.ensures ∙ ap (from_be_bytes w64) (sym kept.same) ∙ number_is text (fits 1 7 text (omega arith) kept.named) ∙ ap name_number c.self.view_is
