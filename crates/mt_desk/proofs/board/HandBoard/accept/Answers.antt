use Rattle.std.proofs.Common.{◌∙◌, is_some}
use Rattle.mt_desk.proofs.Answered.{probed_free, probed_given}
use Rattle.mt_desk.proofs.board.HandBoard.accept.Goals as goal

pub publish-requires-clause-free : goal.publish-requires-clause-free
publish-requires-clause-free g c κs within =
    probed_free (record { desk = c.self.inside.desk.now; view = c.self.inside.seat.view; keeps_look = is_some c.self.inside.look }) c.args.self.now c.args.probe.now c.command.result.now
    c.self.view_is (c.command.ensures ∙ c.in_ok-prep.ensures.prep.command_is) c.prep.ensures.kept c.requires.past c.requires.free

pub publish-requires-clause-prepared : goal.publish-requires-clause-prepared
publish-requires-clause-prepared g c κs within =
    probed_given (record { desk = c.self.inside.desk.now; view = c.self.inside.seat.view; keeps_look = is_some c.self.inside.look }) c.args.self.now c.args.probe.now c.in_ok-prep.prep c.command.result.now
    c.self.view_is c.command.ensures c.in_ok-prep.ensures.prep c.requires.past
