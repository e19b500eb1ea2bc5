use Rattle.mt_desk.proofs.Turning.{has_turn, sees_turn}
use Rattle.mt_desk.proofs.desk.Desk.take.Goals as goal

pub leave-requires-clause-holds : goal.leave-requires-clause-holds
leave-requires-clause-holds g c = has_turn c.args.seat.now.view c.enter-held.new.seat.view c.enter-held.result.lent.history c.enter-held.ensures.holds

pub returns-clause-seen : goal.returns-clause-seen
returns-clause-seen g c =
    sees_turn c.args.self.now.fixed c.args.seat.now.view c.enter-held.new.seat.view c.leave.new.seat.view c.enter-held.result.lent c.enter-held.result.value
    c.enter-held.ensures.holds c.enter-held.ensures.unchanged c.enter-held.ensures.lent.same c.requires.ready.fixed_is
    (rw c.value-legal.ensures at c.keeps.ensures) c.enter-held.ensures.lent.mine_seen c.leave.ensures.left
