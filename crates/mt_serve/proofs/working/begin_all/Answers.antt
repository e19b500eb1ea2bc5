use Rattle.std.proofs.Common.{ℕ, ap, cond, sym, ◌∙◌, arith, rules}
use Rattle.mt_desk.specs.Desk.{IsSeatOfDesk}
use Rattle.mt_serve.specs.Private.Working.{Begun, seats_begun, started_of}
use Rattle.mt_serve.proofs.Accepts.{all_moved, map_push, moved_on}
use Rattle.mt_serve.proofs.Staff.{started_more}
use Rattle.mt_serve.proofs.working.begin_all.Goals as goal
use Rattle.mt_serve.proofs.working.begin_all.Goals.{then-is_started, else-is_started}

pub loop-seat-preserved : goal.loop-seat-preserved
loop-seat-preserved g c =
    let was = c.loop-seat.invariant in
    let more = ap started_of c.push_back_reserved.ensures.items ∙ started_more c.loop-seat.workings.items c.begin_work-working.result in
    record {
      begun = moved_on _ (seats_begun c.loop-seat.workings.items) _ _ _ _ c.begin_work-working.result.seat was.begun c.in-Some.ensures.items
          (ap seats_begun c.push_back_reserved.ensures.items ∙ map_push (λ (b : Begun). b.seat) c.loop-seat.workings.items c.begin_work-working.result) c.begin_work-working.ensures;
      ready = all_moved (IsSeatOfDesk c.args.desk.now) c.in-Some.seat c.pop_front.new.self.items c.loop-seat.seats.items was.ready c.in-Some.ensures.items;
      room = search rules;
      few = search rules;
      place = search rules;
      started = elim c.if-is_started.branch [
        | then-is_started w ↦ omega (arith, w.started-is, was.started, more, ap {B = ℕ} (λ b. cond b 1 0) (sym c.is_started.ensures ∙ w.if-is_started.true))
        | else-is_started w ↦ omega (arith, w.started-is, was.started, more, ap {B = ℕ} (λ b. cond b 1 0) (sym c.is_started.ensures ∙ w.if-is_started.false))
      ];
    }
