use Rattle.std.proofs.Common.{pos, [], ◌∷◌, ◌+◌, ◌∙◌}
use Rattle.mt_board.specs.declared.ask.Ask.TheVariants as asks
use Rattle.mt_read.specs.declared.request.Request.TheVariants as request
use Rattle.mt_read.specs.declared.key.Key.TheVariants as key
use Rattle.mt_read.specs.Field.{bound, number}
use Rattle.mt_read.proofs.ReadingLemmas.{asked, by}
use Rattle.mt_read.proofs.plain.history_line.Goals as goal

pub returns : goal.returns
returns c =
    asked (by (λ from ms. bound key.To (pos from) (pos (from + 64)) (number key.To ms) ∷ []) c.count-from.ensures.reads c.count-to.ensures.reads)
    (λ ms e. (λ i. request.Ask (asks.History (c.from.ensures i) (c.from-2.ensures i))) ∙ (λ i. request.Ask (asks.History (e i).0 (e i).1)))
