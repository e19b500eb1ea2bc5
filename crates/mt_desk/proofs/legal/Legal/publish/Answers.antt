use Rattle.mt_desk.proofs.Histories.{legal_after}
use Rattle.mt_desk.proofs.legal.Legal.publish.Goals as goal

pub invariant_of-self : goal.invariant_of-self
invariant_of-self c = legal_after c.self.inside.picture c.publish.new.self c.args.who c.args.command.now c.publish.result c.self.invariant
    (rw (← c.self.view_is) at c.requires.free) c.publish.ensures.entered c.publish.ensures.unchanged c.publish.ensures.legal

-- what the picture says of it
pub returns-clause-entered : goal.returns-clause-entered
returns-clause-entered c = rw (← c.self.view_is) c.publish.ensures.entered

pub returns-clause-refused : goal.returns-clause-refused
returns-clause-refused c = rw (← c.self.view_is) c.publish.ensures.refused

pub returns-clause-unchanged : goal.returns-clause-unchanged
returns-clause-unchanged c = rw (← c.self.view_is) c.publish.ensures.unchanged
