use Rattle.std.proofs.Common.{refl}
use Rattle.std.proofs.lemmas.List.Elements.{All-nil}
use Rattle.mt_session.proofs.serving.Serving.of.Goals as goal

-- an empty book keeps no probe
pub invariant_of-result : goal.invariant_of-result
invariant_of-result g c = rw c.requires (All-nil _)

pub returns-clause-new : goal.returns-clause-new
returns-clause-new g c = rw c.requires refl

pub returns-clause-home : goal.returns-clause-home
returns-clause-home g c = refl
