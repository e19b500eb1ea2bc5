use Rattle.std.proofs.Common.{List, [], map, subst, take}
use Rattle.std.proofs.lemmas.List.{take_all}
use Rattle.mt_track.specs.declared.roster.Item.{Item}
use Rattle.mt_track.specs.Named.{named}
use Rattle.mt_plain.specs.Private.Added.{AddsConflicts}
use Rattle.mt_base.specs.Tally.{RoseUpTo}
use Rattle.mt_plain.specs.Tests.{pairs_of_different_flights, tests_of_left}
use Rattle.mt_plain.proofs.Found.{Adds-more, IsOfTwo, IsOfTwo-push, IsPublishedOf-all, map_take_push}
use Rattle.mt_plain.proofs.Tallies.{RoseUpTo-part, on_err, raised_by-push}
use Rattle.mt_plain.proofs.pairs.all_pairs.Goals as goal

pub loop-left-preserved : goal.loop-left-preserved
loop-left-preserved c =
    let all = map named c.items-items.result.now in
    let more = map_take_push named c.items-items.result.now c.loop-left.left-index c.left-item.result c.loop-left-test.true c.left-item.is in
    let before = map named (take c.loop-left.left-index c.items-items.result.now) in
    rw more (record {
      found = Adds-more _ _ _ [] c.loop-left.found _ (IsOfTwo-push c.args.rules.now c.args.now before all (named c.left-item.result))
          c.loop-left.invariant.found c.in_ok-add_pairs.ensures.found;
      counted = raised_by-push (tests_of_left all) before (named c.left-item.result) c.args.tests.now _ _
          c.loop-left.invariant.counted c.in_ok-add_pairs.ensures.counted;
    })

pub returns-clause-published : goal.returns-clause-published
returns-clause-published c =
    let all = map named c.items-items.result.now in
    let found = subst (λ (items : List Item). AddsConflicts (IsOfTwo c.args.rules.now c.args.now (map named items) all) [] c.loop-left.found)
    (take_all _ c.items-items.result.now c.loop-left-test.false) c.loop-left.invariant.found in
    rw (← c.items-items.ensures.items)
    (IsPublishedOf-all c.args.rules.now c.args.now all c.loop-left.found _ found c.order.ensures.same c.order.ensures.sorted)

pub returns-in_err-add_pairs-clause-limited : goal.returns-in_err-add_pairs-clause-limited
returns-in_err-add_pairs-clause-limited c =
    let part = RoseUpTo-part (tests_of_left (map named c.items-items.result.now)) named c.items-items.result.now c.loop-left.left-index c.left-item.result
    c.args.tests.now c.loop-left.tests c.add_pairs.new.tests c.loop-left-test.true c.left-item.is c.loop-left.invariant.counted
    c.in_err-add_pairs.ensures.limited in
    let whole : RoseUpTo (pairs_of_different_flights c.args.strands.now) c.args.tests.now c.add_pairs.new.tests = rw (← c.items-items.ensures.items) part in
    on_err _ whole
