use Rattle.std.proofs.Common.{List, le_refl, map, subst, take}
use Rattle.std.proofs.lemmas.List.{take_all}
use Rattle.mt_track.specs.declared.roster.Item.{Item}
use Rattle.mt_track.specs.Named.{named}
use Rattle.mt_plain.specs.Private.Added.{AddsConflicts, IsOfRight}
use Rattle.mt_plain.specs.Private.Tests.{tests_of_pair}
use Rattle.mt_plain.proofs.Found.{Adds-more, IsOfRight-push, map_take_push}
use Rattle.mt_plain.proofs.Tallies.{RoseUpTo-part, on_err, raised_by-push}
use Rattle.mt_plain.proofs.pairs.add_pairs.Goals as goal

pub loop-right-preserved : goal.loop-right-preserved
loop-right-preserved c =
    let more = map_take_push named c.args.items.now c.loop-right.right-index c.right-item.result c.loop-right-test.true c.right-item.is in
    let before = map named (take c.loop-right.right-index c.args.items.now) in
    rw more (record {
      found = Adds-more _ _ _ _ _ _ (IsOfRight-push c.args.rules.now c.args.now (named c.args.left.now) before (named c.right-item.result))
          c.loop-right.invariant.found c.in_ok-add_pair.ensures.found;
      counted = raised_by-push (tests_of_pair (named c.args.left.now)) before (named c.right-item.result) c.args.tests.now _ _
          c.loop-right.invariant.counted c.in_ok-add_pair.ensures.counted;
    })

pub returns-clause-found : goal.returns-clause-found
returns-clause-found c =
    subst (λ (items : List Item). AddsConflicts (IsOfRight c.args.rules.now c.args.now (named c.args.left.now) (map named items)) c.args.found.now c.loop-right.found)
    (take_all _ c.args.items.now c.loop-right-test.false) c.loop-right.invariant.found

pub returns-in_err-add_pair-clause-limited : goal.returns-in_err-add_pair-clause-limited
returns-in_err-add_pair-clause-limited c =
    on_err _ (RoseUpTo-part (tests_of_pair (named c.args.left.now)) named c.args.items.now c.loop-right.right-index c.right-item.result
    c.args.tests.now c.loop-right.tests c.add_pair.new.tests c.loop-right-test.true c.right-item.is c.loop-right.invariant.counted
    (record { more = tests_of_pair (named c.args.left.now) (named c.right-item.result); within = le_refl _; is = c.add_pair.ensures.counted }))
