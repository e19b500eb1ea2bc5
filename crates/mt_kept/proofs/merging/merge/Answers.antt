use Rattle.std.proofs.Common.{arith}
use Rattle.std.proofs.lemmas.List.{take_all}
use Rattle.mt_kept.proofs.Anew.{merged_all, merging_more, merging_none}
use Rattle.mt_kept.proofs.Merged.{rise_of, sorted_whole}
use Rattle.mt_kept.proofs.merging.merge.Goals as goal

pub loop-conflict-init : goal.loop-conflict-init
loop-conflict-init c = record {
  so_far = rw c.clear.ensures.items (merging_none c.args.list.now c.args.hidden.now c.args.shown.now c.requires.sorted c.requires.hidden_sorted);
  long = let none = c.clear.ensures.len in omega arith;
  room = let room = c.requires.room in let capacity = c.clear.ensures.capacity in omega arith;
  capacity = let capacity = c.clear.ensures.capacity in omega arith;
}

pub parted-requires : goal.parted-requires
parted-requires c = sorted_whole c.loop-conflict.rest.now c.loop-conflict.invariant.so_far.rest_rise

pub parted-requires-in-loop-conflict : goal.parted-requires-in-loop-conflict
parted-requires-in-loop-conflict c = sorted_whole c.loop-conflict.gone.now c.loop-conflict.invariant.so_far.gone_rise

pub add_others-requires-clause-room : goal.add_others-requires-clause-room
add_others-requires-clause-room c =
    let long = c.loop-conflict.invariant.long in
    let room = c.loop-conflict.invariant.room in
    let short = c.parted.ensures.short in
    let inside = c.loop-conflict-test.true in
    omega arith

pub add_others-requires-clause-sorted : goal.add_others-requires-clause-sorted
add_others-requires-clause-sorted c = sorted_whole c.parted.result.0.now c.parted.ensures.before_rise

pub add_others-requires-clause-hidden_sorted : goal.add_others-requires-clause-hidden_sorted
add_others-requires-clause-hidden_sorted c = sorted_whole c.parted-in-loop-conflict.result.0.now c.parted-in-loop-conflict.ensures.before_rise

pub push_reserved-requires : goal.push_reserved-requires
push_reserved-requires c =
    let long = c.loop-conflict.invariant.long in
    let room = c.loop-conflict.invariant.room in
    let short = c.parted.ensures.short in
    let inside = c.loop-conflict-test.true in
    let added = c.add_others.ensures.len in
    let capacity = c.add_others.ensures.capacity in
    omega arith

pub loop-conflict-preserved : goal.loop-conflict-preserved
loop-conflict-preserved c =
    let long = c.loop-conflict.invariant.long in
    let room = c.loop-conflict.invariant.room in
    let most = c.loop-conflict.invariant.capacity in
    let short = c.parted.ensures.short in
    let inside = c.loop-conflict-test.true in
    let added = c.add_others.ensures.len in
    let capacity = c.add_others.ensures.capacity in
    let more = c.push_reserved.ensures.len in
    let same = c.push_reserved.ensures.capacity in
    record {
      so_far = rw c.push_reserved.ensures.items (merging_more c.args.list.now c.args.hidden.now c.args.shown.now c.loop-conflict.merged.items c.loop-conflict.rest.now
          c.loop-conflict.gone.now c.parted.result.0.now c.parted.result.1.now c.parted-in-loop-conflict.result.0.now c.parted-in-loop-conflict.result.1.now c.add_others.new.merged.items
          c.loop-conflict.conflict-index c.conflict-item.result (rise_of c.args.shown.now c.requires.shown_sorted) inside c.conflict-item.is
          c.loop-conflict.invariant.so_far c.parted.ensures c.parted-in-loop-conflict.ensures c.add_others.ensures.added);
      long = omega arith;
      room = omega arith;
      capacity = omega arith;
    }

pub add_others-requires-2-clause-room : goal.add_others-requires-2-clause-room
add_others-requires-2-clause-room c =
    let long = c.loop-conflict.invariant.long in
    let room = c.loop-conflict.invariant.room in
    let ended = c.loop-conflict.auto.conflict-index-end in
    omega arith

pub add_others-requires-2-clause-sorted : goal.add_others-requires-2-clause-sorted
add_others-requires-2-clause-sorted c = sorted_whole c.loop-conflict.rest.now c.loop-conflict.invariant.so_far.rest_rise

pub add_others-requires-2-clause-hidden_sorted : goal.add_others-requires-2-clause-hidden_sorted
add_others-requires-2-clause-hidden_sorted c = sorted_whole c.loop-conflict.gone.now c.loop-conflict.invariant.so_far.gone_rise

pub returns-clause-exact : goal.returns-clause-exact
returns-clause-exact c =
    (merged_all c.args.list.now c.args.hidden.now c.args.shown.now c.loop-conflict.merged.items c.loop-conflict.rest.now c.loop-conflict.gone.now
    c.add_others-2.new.merged.items c.loop-conflict.conflict-index (take_all c.loop-conflict.conflict-index c.args.shown.now c.loop-conflict-test.false)
    c.loop-conflict.invariant.so_far c.add_others-2.ensures.added).1

pub returns-clause-sorted : goal.returns-clause-sorted
returns-clause-sorted c =
    sorted_whole c.add_others-2.new.merged.items
    (merged_all c.args.list.now c.args.hidden.now c.args.shown.now c.loop-conflict.merged.items c.loop-conflict.rest.now c.loop-conflict.gone.now
    c.add_others-2.new.merged.items c.loop-conflict.conflict-index (take_all c.loop-conflict.conflict-index c.args.shown.now c.loop-conflict-test.false)
    c.loop-conflict.invariant.so_far c.add_others-2.ensures.added).0

pub returns-clause-len : goal.returns-clause-len
returns-clause-len c =
    let long = c.loop-conflict.invariant.long in
    let ended = c.loop-conflict.auto.conflict-index-end in
    let added = c.add_others-2.ensures.len in
    omega arith

pub returns-clause-capacity : goal.returns-clause-capacity
returns-clause-capacity c = let most = c.loop-conflict.invariant.capacity in let capacity = c.add_others-2.ensures.capacity in omega arith
