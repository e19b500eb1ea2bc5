use Rattle.std.proofs.Common.{◌+◌, take}
use Rattle.std.proofs.lemmas.List.{take_all}
use Rattle.mt_base.proofs.Members.{distinct_take, take_push}
use Rattle.mt_probe.specs.Finds.{AreDifferentFinds}
use Rattle.mt_picture.proofs.Candidacy.{still_more, still_none, still_same}
use Rattle.mt_picture.proofs.candidates.still_ones.Goals as goal
use Rattle.mt_picture.proofs.candidates.still_ones.Goals.{in-Some+in_ok-push, in_default}

pub loop-found-init : goal.loop-found-init
loop-found-init c = rw c.new-list.ensures.items (still_none c.args.snapshot.now.slots c.version-version.result)

pub loop-found-preserved : goal.loop-found-preserved
loop-found-preserved c =
    let slots = c.args.snapshot.now.slots in
    let v = c.version-version.result in
    let finds = c.finds-found-items.result.now in
    let i = c.loop-found.found-index in
    let found = c.found-item.result in
    let more = take_push finds i found c.loop-found-test.true c.found-item.is in
    let apart = distinct_take AreDifferentFinds (i + 1) finds (rw (← c.finds-found-items.ensures) at c.version-version.ensures.kept.finds_are.once) in
    rw more (elim c.match-still.branch [
      | in-Some+in_ok-push w ↦ rw (w.list-is, w.in_ok-push.ensures.items) (still_more slots v (take i finds) c.loop-found.list.items found c.loop-found.invariant w.in-Some.candidate
          (rw more at apart) w.in-Some.ensures.there w.in-Some.ensures.only)
      | in_default w ↦ rw w.list-is (still_same slots v (take i finds) c.loop-found.list.items found c.loop-found.invariant w.in_default.ensures.only)
    ])

pub returns : goal.returns
returns c =
    rw (← c.version-version.ensures.version, ← c.finds-found-items.ensures)
    (rw (take_all c.loop-found.found-index c.finds-found-items.result.now c.loop-found-test.false) at c.loop-found.invariant)
