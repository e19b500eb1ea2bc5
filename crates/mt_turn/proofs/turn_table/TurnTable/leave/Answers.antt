use Rattle.std.proofs.Common.{rules, ◌∷◌, sym, ap, ◌∙◌, subst, Some}
use Rattle.atomic_table.specs.Table.{rest}
use Rattle.mt_turn.specs.Lending.{Grows}
use Rattle.mt_turn.proofs.Serving.{counts}
use Rattle.mt_turn.proofs.Leaving.{grown_by, put_there, passes_counted, leaves}
use Rattle.mt_turn.proofs.turn_table.TurnTable.leave.Goals as goal

pub fetch_add-requires : goal.fetch_add-requires
fetch_add-requires g c =
    let there = c.put.ensures.there in
    let lent = g.T.Recorded.history c.args.lent.value in
    let same_number = ap (λ m. m.0.number) there in (
      search rules,
      search rules,
      counts g.T.Recorded.history g.T.Recorded.number g.T.Recorded.fixed (g.T.Recorded.fixed c.args.self.now.table.shared.key.value) _ _ c.requires.holds.0 _ c.args.value lent _
          (ap (λ m. m.0.phase) there ∙ c.requires.holds.1)
          (ap (λ m. m.1) there ∙ ap (λ l. (0, Some c.args.value) ∷ rest l) c.requires.empty)
          (subst (λ n. Grows g.T.Recorded.number n lent (g.T.Recorded.history c.args.value)) (sym same_number) c.requires.grows)
          (grown_by g.T.Recorded.number c.args.token.now.me.0.number lent (g.T.Recorded.history c.args.value) c.args.count c.count.result c.requires.grows c.requires.counted (search rules))
          c.requires.room,
    )

pub fetch_add-requires-2 : goal.fetch_add-requires-2
fetch_add-requires-2 g c =
    let full = put_there c.args.token.now.me.0 c.args.token.now.me.1 c.args.value c.put.new.token.me c.put.ensures.there c.requires.empty in (
      search rules,
      search rules,
      passes_counted g.T.Recorded.history g.T.Recorded.number g.T.Recorded.fixed (g.T.Recorded.fixed c.args.self.now.table.shared.key.value) _ _ c.args.token.now.me.0 c.args.value c.requires.holds.0 (g.T.Recorded.history c.args.lent.value)
          c.put.new.token.me c.fetch_add.new.seat.me c.fetch_add.result c.requires.holds.1 full c.fetch_add.ensures.2 c.requires.fixed,
    )

pub returns-clause-idle : goal.returns-clause-idle
returns-clause-idle g c =
    let full = put_there c.args.token.now.me.0 c.args.token.now.me.1 c.args.value c.put.new.token.me c.put.ensures.there c.requires.empty in
    let did = leaves g.T.Recorded.history g.T.Recorded.number c.args.token.now.me.0 c.args.value c.requires.holds.0 (g.T.Recorded.history c.args.lent.value) c.put.new.token.me c.fetch_add.new.seat.me c.fetch_add-2.new.seat.me c.fetch_add.result c.fetch_add-2.result
    c.requires.holds.1 full c.fetch_add.ensures.2 c.fetch_add-2.ensures.2 c.requires.grows in
    (did.0, did.1)

pub returns-clause-left : goal.returns-clause-left
returns-clause-left g c =
    let full = put_there c.args.token.now.me.0 c.args.token.now.me.1 c.args.value c.put.new.token.me c.put.ensures.there c.requires.empty in
    (leaves g.T.Recorded.history g.T.Recorded.number c.args.token.now.me.0 c.args.value c.requires.holds.0 (g.T.Recorded.history c.args.lent.value) c.put.new.token.me c.fetch_add.new.seat.me c.fetch_add-2.new.seat.me c.fetch_add.result c.fetch_add-2.result
    c.requires.holds.1 full c.fetch_add.ensures.2 c.fetch_add-2.ensures.2 c.requires.grows).2
