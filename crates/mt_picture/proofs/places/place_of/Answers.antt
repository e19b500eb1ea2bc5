use Rattle.std.proofs.Common.{ap, sym}
use Rattle.mt_picture.specs.Private.Places.{place_in}
use Rattle.mt_picture.proofs.places.place_of.Goals as goal

pub returns-in-Actual : goal.returns-in-Actual
returns-in-Actual c = sym (ap (place_in c.args.slot) c.in-Actual.is)

pub returns-in-Tentative : goal.returns-in-Tentative
returns-in-Tentative c = sym (ap (place_in c.args.slot) c.in-Tentative.is)
