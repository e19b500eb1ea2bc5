use Rattle.mt_read.specs.declared.request.Request.TheVariants as request
use Rattle.mt_read.proofs.ReadingLemmas.{asked, kept_in, ◌▹◌}
use Rattle.mt_read.proofs.tables.fix_line.Goals as goal

pub returns : goal.returns
returns c =
    asked (c.fix_name-name.ensures ▹ c.whole-x.ensures ▹ c.whole-y.ensures) (λ ms e i. request.Fix (e i).0 (kept_in _ _ (record { sfits = c.whole-x.type_inv }) (λ j. (e j).1.0) i)
    (kept_in _ _ (record { sfits = c.whole-y.type_inv }) (λ j. (e j).1.1) i))
