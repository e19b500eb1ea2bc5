use Rattle.std.proofs.Common.{rules, ap, ◌∙◌}
use Rattle.mt_turn.proofs.Waiting.{looks}
use Rattle.mt_turn.proofs.turn_table.TurnTable.wait.Goals as goal

pub load-served-requires : goal.load-served-requires
load-served-requires g c = (
  search rules,
  search rules,
  looks g.T.Recorded.history g.T.Recorded.number g.T.Recorded.fixed (g.T.Recorded.fixed c.args.self.now.table.shared.key.value) _ _ c.requires.waits.0 _ (ap (λ m. m.0.phase) c.loop.invariant.1 ∙ c.requires.waits.2),
)
