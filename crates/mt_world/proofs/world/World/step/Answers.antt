use Rattle.mt_world.proofs.world.World.step.Goals as goal

pub returns-clause-tested : goal.returns-clause-tested
returns-clause-tested g c = rw (← c.self.view_is) (record {
  more = c.step-reply.new.tests;
  are = rw c.new-tests.ensures at c.step-reply.ensures.tested;
  is = rw c.get.ensures at c.saturating_add-self-inside.ensures;
})
