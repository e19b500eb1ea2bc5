use Rattle.std.proofs.Common.{refl}
use Rattle.mt_picture.proofs.entering.is_probed.Goals as goal

-- an acceptance is probed
pub returns-in-Accept : goal.returns-in-Accept
returns-in-Accept c = rw c.in-Accept.is refl
