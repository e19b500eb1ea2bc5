use Rattle.mt_names.proofs.Sharing.{taken_listed, taken_own}
use Rattle.mt_names.proofs.names.Names.without.Goals as goal

pub invariant_of-result : goal.invariant_of-result
invariant_of-result c =
    taken_own c.self.inside.rows.items c.in_ok-rows.rows.items c.args.call c.row_of-place.result c.index.result.now c.in_ok-rows-2.field-0
    c.deref-2.result.now c.in_ok-row.row c.self.invariant (rw c.deref.ensures.value at c.in_ok-rows.ensures.same) c.in_ok-rows.ensures.many
    c.row_of-place.ensures.row c.row_of-place.ensures.below c.index.ensures c.deref-2.ensures c.in_ok-rows-2.ensures.ok c.in_ok-row.ensures

pub returns : goal.returns
returns c =
    taken_listed c.self.inside.rows.items c.in_ok-rows.rows.items c.args.call c.row_of-place.result c.index.result.now c.in_ok-rows-2.field-0
    c.deref-2.result.now c.in_ok-row.row c.self.invariant (rw c.deref.ensures.value at c.in_ok-rows.ensures.same) c.in_ok-rows.ensures.many
    c.row_of-place.ensures.row c.row_of-place.ensures.below c.index.ensures c.deref-2.ensures c.in_ok-rows-2.ensures.ok c.in_ok-row.ensures c.args.self.now c.self.view_is
