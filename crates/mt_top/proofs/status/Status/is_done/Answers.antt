use Rattle.std.proofs.Common.{◌≡◌, false, refl}
use Rattle.mt_top.specs.Private.Status.{is_done}
use Rattle.mt_top.specs.declared.status.Status.{Status}
use Rattle.mt_top.specs.declared.status.Status.TheVariants.{Done}
use Rattle.mt_top.proofs.status.Status.is_done.Goals as goal

not_done : (status : Status) → (status ≡ Done → ⊥) → false ≡ is_done status
not_done Done other = absurd (other refl)
not_done status other = refl

pub returns-in-Done : goal.returns-in-Done
returns-in-Done c = rw c.in-Done.is refl

pub returns-in_default : goal.returns-in_default
returns-in_default c = not_done c.args.self c.in_default.not-Done
