use Rattle.mt_ws.proofs.beginning.is_version.Goals as goal

pub returns-in-None : goal.returns-in-None
returns-in-None c = ((λ t. cc), λ is. absurd (c.in-None.ensures is.0 (rw c.as_slice.ensures is.1)))
