use Rattle.std.proofs.Common.{◌≡◌, ap, rules, subst, sym}
use Rattle.mt_desk.specs.Desk.{IsSeatOfDesk}
use Rattle.mt_serve.specs.Private.Working.{Begun}
use Rattle.mt_serve.proofs.Staff.{still_ready, worked_on}
use Rattle.mt_serve.proofs.working.rest.Goals as goal
use Rattle.mt_serve.proofs.working.rest.Goals.{then-shift, else-shift}

pub work_in-requires-clause-ready : goal.work_in-requires-clause-ready
work_in-requires-clause-ready g c κs within =
    let given : c.in-Ok.handle.promise.seat.value ≡ c.working.inside.given.seat.value = search rules in
    let ready = subst (IsSeatOfDesk c.args.desk.now) (ap (λ (b : Begun). b.seat) (sym c.working.view_is)) c.requires.ready in
    still_ready c.args.desk.now c.working.inside.given.seat.value c.join-shift.result.seat ready (rw given at c.join-shift.ensures.0)

pub invariant_of-t-12 : goal.invariant_of-t-12
invariant_of-t-12 g c =
    let given : c.in-Ok.handle.promise.seat.value ≡ c.working.inside.given.seat.value = search rules in
    let shift = rw given at c.join-shift.ensures.0 in
    elim c.if-shift.branch [
      | then-shift w ↦ rw w.seat-is (worked_on _ _ _ shift w.work_in.ensures.seat, w.work_in.ensures.over)
      | else-shift w ↦ rw w.seat-is (shift, c.join-shift.ensures.1 w.if-shift.false)
    ]
