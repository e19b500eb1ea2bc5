use Rattle.std.proofs.Common.{◌∙◌, ap, map, rules}
use Rattle.mt_desk.specs.Desk.{IsSeatOfDesk}
use Rattle.mt_serve.specs.Private.Working.{Begun, begun_as}
use Rattle.mt_serve.proofs.Accepts.{all_moved, map_push, moved_on}
use Rattle.mt_serve.proofs.working.rest_all.Goals as goal

pub loop-working-preserved : goal.loop-working-preserved
loop-working-preserved g c =
    let was = c.loop-working.invariant in
    record {
      rested = moved_on _ (map begun_as c.loop-working.resteds.items) _ _ _ _ (begun_as c.rest-rested.result) was.rested c.in-Some.ensures.items
          (ap (map begun_as) c.push_back_reserved.ensures.items ∙ map_push begun_as c.loop-working.resteds.items c.rest-rested.result) c.rest-rested.ensures;
      ready = all_moved (λ (b : Begun). IsSeatOfDesk c.args.desk.now b.seat) c.in-Some.working c.pop_front.new.self.items c.loop-working.workings.items was.ready c.in-Some.ensures.items;
      room = search rules;
    }
