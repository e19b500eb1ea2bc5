use Rattle.mt_board.specs.declared.ask.Ask.TheVariants as asks
use Rattle.mt_read.specs.declared.request.Request.TheVariants as request
use Rattle.mt_read.proofs.ReadingLemmas.{asked, ◌▹◌}
use Rattle.mt_read.proofs.plain.flight_line.Goals as goal

pub returns : goal.returns
returns c = asked (c.callsign-call.ensures ▹ c.count_or_none-sec.ensures) (λ ms e i. request.Ask (asks.Flight (e i).0 (e i).1))
