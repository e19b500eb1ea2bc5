use Rattle.std.specs.Arc.{arc_value}
use Rattle.mt_world.specs.Private.Kept.{IsBegunWith}
use Rattle.mt_world.proofs.Keeping.{still_begun}
use Rattle.mt_world.proofs.script.Script.serve.Goals as goal

pub invariant_of-self : goal.invariant_of-self
invariant_of-self g c =
    let with_these : IsBegunWith (arc_value c.in-Begun.field-0) c.in-Begun.world.world = rw c.in-Begun.is at c.self.invariant in
    still_begun c.in-Begun.world.world c.step.new.self.world c.args.who c.step.result with_these.begun_is (arc_value c.in-Begun.field-0) c.args.request.now with_these
    c.step.ensures.served

pub returns-in-Err-clause-begins : goal.returns-in-Err-clause-begins
returns-in-Err-clause-begins g c = λ before. c.world.ensures.stays
