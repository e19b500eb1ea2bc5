use Rattle.std.proofs.Common.{rules}
use Rattle.mt_turn.proofs.Joining.{joins}
use Rattle.mt_turn.proofs.turn_table.TurnTable.join.Goals as goal

pub join_seat-requires : goal.join_seat-requires
join_seat-requires g c = (
  search rules,
  search rules,
  search rules,
  search rules,
  joins g.T.Recorded.history g.T.Recorded.number g.T.Recorded.fixed (g.T.Recorded.fixed c.args.self.now.table.shared.key.value) _ _ _ _ c.requires.idle.0 c.requires.first c.requires.idle.1,
)
