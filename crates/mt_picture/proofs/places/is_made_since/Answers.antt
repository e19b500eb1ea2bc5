use Rattle.std.proofs.Common.{ap}
use Rattle.mt_picture.specs.Private.Candidates.{is_after}
use Rattle.mt_picture.proofs.places.is_made_since.Goals as goal

pub returns-in-Some : goal.returns-in-Some
returns-in-Some c = ap (is_after c.args.version) (rw c.kind_of.ensures at c.in-Some.ensures)

pub returns-in-None : goal.returns-in-None
returns-in-None c = ap (is_after c.args.version) (rw c.kind_of.ensures at c.in-None.ensures)
