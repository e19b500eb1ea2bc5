use Rattle.std.proofs.Common.{◌↔◌, Contains, Result, Ok, Err, IfOk, arith}
use Rattle.std.specs.Prelude.{slice_index_or}
use Rattle.mt_base.specs.declared.area.Pierced.{Pierced}
use Rattle.mt_track.specs.declared.roster.Item.{Item}
use Rattle.mt_track.specs.Named.{named}
use Rattle.mt_area.specs.Private.Telling.{IsPiercedByOne}
use Rattle.mt_area.proofs.telling.tell_each.Goals as goal

if_ok_at : {X Y E : Type 0} (Q : Y → X → Type 0) (r : Result Y E) (x : X) → IfOk r (λ y. (z : X) → Q y z) → IfOk r (λ y. Q y x)
if_ok_at Q (Ok y) x h = h x
if_ok_at Q (Err e) x h = tt

pub returns-clause-each : goal.returns-clause-each
returns-clause-each g c = λ i t x below.
    let at = (c.for_each_mut.ensures i t (omega (arith, below, c.requires.len))).1 in
    if_ok_at (λ found (z : Item). (p : Pierced) → Contains found p ↔ IsPiercedByOne c.args.now c.args.areas.now (named (slice_index_or c.args.items.now i z)) p)
    (slice_index_or c.for_each_mut.new.s i t) x (rw at.left at at.call)
