use Rattle.mt_read.specs.declared.request.Request.TheVariants as request
use Rattle.mt_read.proofs.ReadingLemmas.{asked, ◌▹◌}
use Rattle.mt_read.proofs.tables.type_line.Goals as goal

pub returns : goal.returns
returns c = asked (c.type_name-name.ensures ▹ c.in_ok-bands.ensures) (λ ms e i. request.TypeLine (e i).0 (e i).1)
