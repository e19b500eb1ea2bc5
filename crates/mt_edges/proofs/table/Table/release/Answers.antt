use Rattle.std.proofs.Common.{◌-◌, ◌/◌, arith, inl, inr}
use Rattle.std.proofs.lemmas.Bool.{eq-eqb, or_left, or_right}
use Rattle.mt_edges.proofs.Nodes.{is_dropped, spares_dropped}
use Rattle.mt_edges.proofs.Walks.{IsOther, laid_one, near, rest_of, third_in, turn, walk_on}
use Rattle.mt_edges.proofs.table.Table.release.Goals as goal
use Rattle.mt_edges.proofs.table.Table.release.Goals.{then-place-first, else-place-first}

pub overflow_sub-offset : goal.overflow_sub-offset
overflow_sub-offset c =
    let t = turn _ _ _ _ _ _ _ _ _ c.requires.walk c.requires.end c.requires.some in
    elim t.side [ inl e ↦ omega (arith, e.0) | inr e ↦ omega (arith, e.0) ]

pub overflow_add-other : goal.overflow_add-other
overflow_add-other c =
    let t = turn _ _ _ _ _ _ _ _ _ c.requires.walk c.requires.end c.requires.some in
    let r = c.requires.walk.shape.room in
    let h = c.args.self.now.links.next.ok in
    omega (arith, t.within, r, h.0, h.1)

pub unlink-requires : goal.unlink-requires
unlink-requires c =
    let t = turn _ _ _ _ _ _ _ _ _ c.requires.walk c.requires.end c.requires.some in
    let o : IsOther c.args.self.now.base c.args.place ((c.args.place - c.args.self.now.base) / 3) c.if-place-first.other =
    elim c.if-place-first.branch [ then-place-first w ↦ inl (w.if-place-first.true, w.other-is) | else-place-first w ↦ inr (w.if-place-first.false, w.other-is) ] in
    let r = rest_of _ _ _ _ _ _ _ _ _ _ _ c.requires.walk c.requires.end t o in
    near _ _ _ _ _ _ c.requires.walk.laid r.other_is r.other_has

pub overflow_add-first-2 : goal.overflow_add-first-2
overflow_add-first-2 c =
    let t = turn _ _ _ _ _ _ _ _ _ c.requires.walk c.requires.end c.requires.some in
    let r = c.requires.walk.shape.room in
    let h = c.args.self.now.links.next.ok in
    omega (arith, t.within, r, h.0, h.1)

pub unlink-requires-2 : goal.unlink-requires-2
unlink-requires-2 c =
    let t = turn _ _ _ _ _ _ _ _ _ c.requires.walk c.requires.end c.requires.some in
    let o : IsOther c.args.self.now.base c.args.place ((c.args.place - c.args.self.now.base) / 3) c.if-place-first.other =
    elim c.if-place-first.branch [ then-place-first w ↦ inl (w.if-place-first.true, w.other-is) | else-place-first w ↦ inr (w.if-place-first.false, w.other-is) ] in
    let r = rest_of _ _ _ _ _ _ _ _ _ _ _ c.requires.walk c.requires.end t o in
    near _ _ _ _ _ _ (laid_one _ _ _ _ _ _ _ _ _ _ c.requires.walk.laid r c.unlink.ensures.links) r.third_is (third_in _ _ _ _ _ _ r o)

pub index_mut-requires : goal.index_mut-requires
index_mut-requires c =
    let t = turn _ _ _ _ _ _ _ _ _ c.requires.walk c.requires.end c.requires.some in
    omega (arith, t.within, c.args.self.now.nodes.ok.0)

pub index_mut-requires-2 : goal.index_mut-requires-2
index_mut-requires-2 c =
    let t = turn _ _ _ _ _ _ _ _ _ c.requires.walk c.requires.end c.requires.some in
    let l = (spares_dropped _ _ _ _ _ c.requires.walk.shape.spares t.here).0 in
    omega (arith, l, c.args.self.now.free.ok.0)

pub behind-requires : goal.behind-requires
behind-requires c =
    let t = turn _ _ _ _ _ _ _ _ _ c.requires.walk c.requires.end c.requires.some in
    elim t.side [
      | inl e ↦ omega (arith, e.0, t.within, c.requires.walk.shape.room, c.unlink.ensures.links.lengths.0, c.unlink-2.ensures.links.lengths.0)
      | inr e ↦ omega (arith, e.0, t.within, c.requires.walk.shape.room, c.unlink.ensures.links.lengths.0, c.unlink-2.ensures.links.lengths.0)
    ]

pub returns-clause-walk : goal.returns-clause-walk
returns-clause-walk c =
    let t = turn _ _ _ _ _ _ _ _ _ c.requires.walk c.requires.end c.requires.some in
    let o : IsOther c.args.self.now.base c.args.place ((c.args.place - c.args.self.now.base) / 3) c.if-place-first.other =
    elim c.if-place-first.branch [ then-place-first w ↦ inl (w.if-place-first.true, w.other-is) | else-place-first w ↦ inr (w.if-place-first.false, w.other-is) ] in
    let r = rest_of _ _ _ _ _ _ _ _ _ _ _ c.requires.walk c.requires.end t o in
    rw c.behind.ensures (walk_on _ _ _ _ _ _ _ _ _ _ _ _ _ _ _ c.requires.walk t r o c.unlink.ensures.links c.unlink-2.ensures.links)

pub returns-clause-dropped : goal.returns-clause-dropped
returns-clause-dropped c =
    let t = turn _ _ _ _ _ _ _ _ _ c.requires.walk c.requires.end c.requires.some in
    is_dropped _ _ t.edge c.args.end t.here (elim t.side [
      | inl e ↦ or_left _ _ (eq-eqb _ _ e.1)
      | inr e ↦ or_right _ _ (eq-eqb _ _ e.1)
    ])
