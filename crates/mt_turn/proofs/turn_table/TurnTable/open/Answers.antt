use Rattle.std.proofs.Common.{rules, ◌≡◌, [], ◌∷◌, sym, subst₂, Some}
use Rattle.atomic_table.specs.Table.{opening}
use Rattle.mt_turn.specs.Views.{first_view}
use Rattle.mt_turn.specs.Private.Turning.{Turning}
use Rattle.mt_turn.proofs.Ends.{opens}
use Rattle.mt_turn.proofs.turn_table.TurnTable.open.Goals as goal

pub new-requires : goal.new-requires
new-requires g c =
    let items : c.push.new.self.items ≡ Some c.args.value ∷ [] = search rules in
    subst₂ (λ x xs. Turning g.T.Recorded.history g.T.Recorded.number g.T.Recorded.fixed (g.T.Recorded.fixed x) (opening (0 ∷ 0 ∷ 0 ∷ 1 ∷ []) xs (first_view (g.T.Recorded.fixed x)))) (sym c.of-about.ensures) (sym items)
    (opens g.T.Recorded.history g.T.Recorded.number g.T.Recorded.fixed c.args.value c.requires.empty)
