use Rattle.mt_desk.proofs.Histories.{asked_bounded, asked_free, asked_in_time}
use Rattle.mt_desk.proofs.board.HandBoard.change.Goals as goal

pub publish-requires-clause-bounded : goal.publish-requires-clause-bounded
publish-requires-clause-bounded g c κs within = asked_bounded c.args.command c.requires.bounded

pub publish-requires-clause-in_time : goal.publish-requires-clause-in_time
publish-requires-clause-in_time g c κs within = asked_in_time _ c.args.command c.requires.asked_for

pub publish-requires-clause-free : goal.publish-requires-clause-free
publish-requires-clause-free g c κs within = asked_free _ _ c.args.command c.requires.asked_for

pub publish-requires-clause-prepared : goal.publish-requires-clause-prepared
publish-requires-clause-prepared g c κs within = λ makes. cc (c.makes_strand.ensures.1 makes)

pub returns-then-makes_strand-clause-changed : goal.returns-then-makes_strand-clause-changed
returns-then-makes_strand-clause-changed g c = rw (← c.self.view_is) c.change_prepared.ensures.changed

pub returns-clause-changed : goal.returns-clause-changed
returns-clause-changed g c = rw (← c.self.view_is) c.publish.ensures.changed
