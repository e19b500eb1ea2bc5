use Rattle.std.proofs.Common.{rules, ◌^◌, ◌<◌, length, sym, ap, subst}
use Rattle.mt_turn.proofs.Numbering.{numbers}
use Rattle.mt_turn.proofs.Splitting.{splits}
use Rattle.mt_turn.proofs.turn_table.TurnTable.split.Goals as goal

pub fetch_add-number-requires : goal.fetch_add-number-requires
fetch_add-number-requires g c = (search rules, search rules, numbers g.T.Recorded.history g.T.Recorded.number g.T.Recorded.fixed (g.T.Recorded.fixed c.args.self.now.table.shared.key.value) _ _ _ c.requires.idle c.requires.first)

pub split_seat-other-requires : goal.split_seat-other-requires
split_seat-other-requires g c = let told = c.fetch_add-number.ensures.2 in (
  search rules,
  search rules,
  splits g.T.Recorded.history g.T.Recorded.number g.T.Recorded.fixed (g.T.Recorded.fixed c.args.self.now.table.shared.key.value) _ _ _ (ap (λ m. m.0.phase) told.0)
      (subst (λ n. n < 2 ^ 31) (sym (ap (λ m. length m.0.gave) told.0)) c.requires.room),
)
