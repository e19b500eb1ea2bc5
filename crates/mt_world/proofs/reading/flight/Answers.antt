use Rattle.std.proofs.Common.{◌∙◌, sym}
use Rattle.mt_world.proofs.Told.{flight_told}
use Rattle.mt_world.proofs.reading.flight.Goals as goal

pub returns-in-Some-clause-told : goal.returns-in-Some-clause-told
returns-in-Some-clause-told c = flight_told c.args.picture.now c.args.call c.args.sec c.in-Some.view (sym c.in_ok-viewed.ensures ∙ c.in-Some.is)
