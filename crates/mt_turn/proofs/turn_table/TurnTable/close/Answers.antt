use Rattle.std.proofs.Common.{rules}
use Rattle.mt_turn.proofs.Ends.{ends_some, ends_with}
use Rattle.mt_turn.proofs.turn_table.TurnTable.close.Goals as goal

pub unwrap-value-requires : goal.unwrap-value-requires
unwrap-value-requires g c =
    let there = ends_some g.T.Recorded.history g.T.Recorded.number g.T.Recorded.fixed (g.T.Recorded.fixed c.args.self.table.shared.key.value) _ c.args.token.me.0 _ _ c.take.result c.requires.first c.requires.idle c.requires.joined c.close_with-closed.ensures.values.2 c.take.ensures.value in
    rw there.1 (search rules)

pub returns-clause-history : goal.returns-clause-history
returns-clause-history g c =
    (ends_with g.T.Recorded.history g.T.Recorded.number g.T.Recorded.fixed (g.T.Recorded.fixed c.args.self.table.shared.key.value) _ c.args.token.me.0 _ _ c.take.result c.unwrap-value.result c.requires.first c.requires.idle c.requires.joined
    c.close_with-closed.ensures.values.2 c.take.ensures.value c.unwrap-value.ensures).0

pub returns-clause-fixed : goal.returns-clause-fixed
returns-clause-fixed g c =
    (ends_with g.T.Recorded.history g.T.Recorded.number g.T.Recorded.fixed (g.T.Recorded.fixed c.args.self.table.shared.key.value) _ c.args.token.me.0 _ _ c.take.result c.unwrap-value.result c.requires.first c.requires.idle c.requires.joined
    c.close_with-closed.ensures.values.2 c.take.ensures.value c.unwrap-value.ensures).1
