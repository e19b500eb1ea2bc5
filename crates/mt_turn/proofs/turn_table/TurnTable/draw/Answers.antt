use Rattle.std.proofs.Common.{rules}
use Rattle.mt_turn.proofs.Waiting.{draws}
use Rattle.mt_turn.proofs.turn_table.TurnTable.draw.Goals as goal

pub fetch_add-requires : goal.fetch_add-requires
fetch_add-requires g c = (search rules, search rules, draws g.T.Recorded.history g.T.Recorded.number g.T.Recorded.fixed (g.T.Recorded.fixed c.args.self.now.table.shared.key.value) _ _ _ c.requires.idle)
