-- What the calls on an object in memory count.
use Rattle.std.proofs.Common.{◌≡◌, ◌≤◌, ap, arith}
use Rattle.std.proofs.Common.{Ok, Err}
use Rattle.mt_io.specs.Calls.{FaultPlan, GoOn, one_failed}
use Rattle.mt_io.specs.Causes.{HasCause}

-- a call that was to fail has its cause
pub failed_cause : {T E : Type 0} (old new : FaultPlan) (e : E) → old.failed ≤ new.failed → new ≡ one_failed old → HasCause {T = T} {E = E} old.failed new.failed (Err e)
failed_cause old new e later is = record { later = later; failed = omega (arith, ap (λ (p : FaultPlan). p.failed) is) }

pub passed_cause : {T E : Type 0} (old new : FaultPlan) (x : T) → GoOn old new → HasCause {T = T} {E = E} old.failed new.failed (Ok x)
passed_cause old new x on = record { later = on.later; failed = tt }
