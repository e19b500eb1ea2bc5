use Rattle.std.proofs.Common.{◌∷◌, ◌++◌, [], sym, refl, ap, ◌∙◌, subst, rules, arith}
use Rattle.mt_serve.specs.Private.Accepting.{Accepting}
use Rattle.mt_desk.specs.Desk.{IsSeatOfDesk}
use Rattle.mt_serve.proofs.Accepts.{accepting_more, all_front, at_some, channels_more}
use Rattle.mt_serve.proofs.accepting.accept.Goals as goal

pub loop-preserved : goal.loop-preserved
loop-preserved g c =
    let was = c.loop.invariant in
    let more = accepting_more _ _ _ _ _ _ _ _ _ c.pop_front.new.self.items _ c.in-Ok-Some.link c.in-Some-pop_front.seat _ was.0 (at_some c.in-Ok-Some.field-0 c.in-Ok-Some.link _ _ c.in-Ok-Some.field-0-is c.in-Ok-Some.ensures.gives) c.in-Some-pop_front.ensures.items in
    let items = c.push_back_reserved.ensures.items ∙ ap (λ s. c.loop.sittings.items ++ s ∷ []) c.begin-sitting.ensures in (
      subst (λ starts. Accepting c.args.desk.now (g.D.Door.count c.args.door.now) (g.D.Door.count c.next_link.new.self) (g.D.Door.still c.args.door.now) (g.D.Door.still c.next_link.new.self) c.args.seats.now.items c.pop_front.new.self.items starts) (sym items) more,
      search rules,
      c.next_link.ensures.back ∙ was.2,
      omega (arith, was.3, c.next_link.ensures.cause.later),
      channels_more c.args.senders.now.items c.loop.senders.items c.pop_front-jobs.new.self.items c.pop_front-jobs.result c.loop.sittings.items _ _
          was.4 c.pop_front-jobs.ensures.items items refl,
    )

pub begin-sitting-requires-clause-ready : goal.begin-sitting-requires-clause-ready
begin-sitting-requires-clause-ready g c κs within =
    all_front (IsSeatOfDesk c.args.desk.now) c.in-Some-pop_front.seat c.pop_front.new.self.items c.loop.seats.items c.loop.invariant.0.ready c.in-Some-pop_front.ensures.items

-- the door failed, or gave all links
pub returns-in-Err-clause-links : goal.returns-in-Err-clause-links
returns-in-Err-clause-links g c = record { begun = search rules; ready = c.loop.invariant.0.ready; returned = search rules; faults = search rules; over = search rules }

pub returns-in-Ok-None-clause-links : goal.returns-in-Ok-None-clause-links
returns-in-Ok-None-clause-links g c = record { begun = search rules; ready = c.loop.invariant.0.ready; returned = search rules; faults = search rules; over = search rules }
