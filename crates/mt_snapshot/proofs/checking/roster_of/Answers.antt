use Rattle.std.proofs.Common.{◌≡◌, ◌≤◌, ◌++◌, List, get_or, length, ap, ◌∙◌, arith}
use Rattle.std.proofs.lemmas.List.{take_all}
use Rattle.std.specs.List.{flat_map}
use Rattle.mt_base.specs.Picture.{NamedTrajectory, trajectories_of}
use Rattle.mt_probe.specs.Shot.{records_in}
use Rattle.mt_snapshot.specs.declared.order.Filed.{Filed}
use Rattle.mt_snapshot.specs.Private.Kept.{kept_at}
use Rattle.mt_snapshot.specs.Private.Order.{ArePlaced}
use Rattle.mt_snapshot.proofs.Trajectories.{as_many, card_in_turn, joins, others_before}
use Rattle.mt_snapshot.proofs.checking.roster_of.Goals as goal

pub add_flight-requires : goal.add_flight-requires
add_flight-requires c =
    let shot = c.args.snapshot.now in
    let xs = c.deref-filed-items.result.now in
    let none : Filed = record { at = 0; place = 0 } in
    let placed : ArePlaced shot xs = rw c.deref-filed-items.ensures.value c.in_ok-places.ensures in
    let at = card_in_turn shot xs c.loop-filed.filed-index none placed c.loop-filed-test.true in
    rw c.loop-filed.invariant (others_before shot c.loop-filed.filed-index (get_or xs c.loop-filed.filed-index none) c.keeps.ensures.sound at)

pub loop-filed-preserved : goal.loop-filed-preserved
loop-filed-preserved c =
    let shot = c.args.snapshot.now in
    let xs = c.deref-filed-items.result.now in
    let none : Filed = record { at = 0; place = 0 } in
    let placed : ArePlaced shot xs = rw c.deref-filed-items.ensures.value c.in_ok-places.ensures in
    let at = card_in_turn shot xs c.loop-filed.filed-index none placed c.loop-filed-test.true in
    let it = get_or xs c.loop-filed.filed-index none in
    c.in_ok-add_flight.ensures
    ∙ ap (λ (ts : List NamedTrajectory). ts ++ kept_at shot it.place) c.loop-filed.invariant
    ∙ joins shot (records_in shot.slots) c.loop-filed.filed-index it c.keeps.ensures.sound at

pub returns : goal.returns
returns c =
    let shot = c.args.snapshot.now in
    let xs = c.deref-filed-items.result.now in
    let placed : ArePlaced shot xs = rw c.deref-filed-items.ensures.value c.in_ok-places.ensures in
    let count : length xs ≡ length (records_in shot.slots) = as_many shot xs (records_in shot.slots) placed in
    let past : length (records_in shot.slots) ≤ c.loop-filed.filed-index = omega (arith, count, c.loop-filed-test.false) in
    c.loop-filed.invariant ∙ ap (flat_map (trajectories_of shot.setup)) (take_all c.loop-filed.filed-index (records_in shot.slots) past)
