use Rattle.std.proofs.Common.{◌++◌, [], sym, ◌∙◌, ap, List, arith}
use Rattle.std.proofs.lemmas.List.{append-nil, append_assoc, take_all}
use Rattle.mt_base.specs.declared.conflict.Conflict.{Conflict}
use Rattle.mt_kept.proofs.Leaving.{leaving_more, leaving_none, others_added}
use Rattle.mt_kept.proofs.Merged.{rise_of, sorted_whole}
use Rattle.mt_kept.proofs.merging.add_others.Goals as goal

pub loop-conflict-init : goal.loop-conflict-init
loop-conflict-init c = record {
  so_far = ([], sym (append-nil c.args.merged.now.items), leaving_none c.args.list.now c.args.hidden.now c.requires.sorted);
  short = omega arith;
  room = c.requires.room;
  capacity = omega arith;
}

pub parted-requires : goal.parted-requires
parted-requires c = sorted_whole c.loop-conflict.rest.now c.loop-conflict.invariant.so_far.2.rest_rise

pub add_all-requires : goal.add_all-requires
add_all-requires c =
    let fits = c.loop-conflict.invariant.short in
    let room = c.loop-conflict.invariant.room in
    let short = c.parted.ensures.short in
    omega arith

pub loop-conflict-preserved : goal.loop-conflict-preserved
loop-conflict-preserved c =
    let so_far = c.loop-conflict.invariant.so_far in
    let kept = so_far.0 in
    let fits = c.loop-conflict.invariant.short in
    let room = c.loop-conflict.invariant.room in
    let most = c.loop-conflict.invariant.capacity in
    let short = c.parted.ensures.short in
    let inside = c.loop-conflict-test.true in
    let long = c.add_all.ensures.len in
    let capacity = c.add_all.ensures.capacity in
    record {
      so_far = (
        kept ++ c.parted.result.0.now,
        c.add_all.ensures.items ∙ ap (λ (cs : List Conflict). cs ++ c.parted.result.0.now) so_far.1
            ∙ append_assoc c.args.merged.now.items kept c.parted.result.0.now,
        leaving_more c.args.list.now c.args.hidden.now kept c.loop-conflict.rest.now c.parted.result.0.now c.parted.result.1.now c.loop-conflict.conflict-index
            c.conflict-item.result (rise_of c.args.hidden.now c.requires.hidden_sorted) inside c.conflict-item.is so_far.2 c.parted.ensures,
      );
      short = omega arith;
      room = omega arith;
      capacity = omega arith;
    }

pub add_all-requires-2 : goal.add_all-requires-2
add_all-requires-2 c = let fits = c.loop-conflict.invariant.short in let room = c.loop-conflict.invariant.room in omega arith

pub returns-clause-added : goal.returns-clause-added
returns-clause-added c =
    let all = take_all c.loop-conflict.conflict-index c.args.hidden.now c.loop-conflict-test.false in
    let so_far = c.loop-conflict.invariant.so_far in
    others_added c.args.list.now c.args.hidden.now so_far.0 c.loop-conflict.rest.now c.args.merged.now.items c.add_all-2.new.merged.items
    c.loop-conflict.conflict-index all so_far.2
    (c.add_all-2.ensures.items ∙ ap (λ (cs : List Conflict). cs ++ c.loop-conflict.rest.now) so_far.1
    ∙ append_assoc c.args.merged.now.items so_far.0 c.loop-conflict.rest.now)

pub returns-clause-len : goal.returns-clause-len
returns-clause-len c = let fits = c.loop-conflict.invariant.short in let long = c.add_all-2.ensures.len in omega arith

pub returns-clause-capacity : goal.returns-clause-capacity
returns-clause-capacity c = let most = c.loop-conflict.invariant.capacity in let capacity = c.add_all-2.ensures.capacity in omega arith
