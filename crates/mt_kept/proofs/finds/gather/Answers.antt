use Rattle.std.proofs.Common.{map, subst, List, refl}
use Rattle.std.proofs.lemmas.List.{take_all, get_or_default}
use Rattle.mt_track.specs.Named.{named}
use Rattle.mt_kept.specs.declared.finds.Candidate.{Candidate}
use Rattle.mt_kept.specs.Finds.{cost}
use Rattle.mt_kept.specs.Places.{seen}
use Rattle.mt_kept.proofs.Costs.{cost_more, cost_part, none_rose}
use Rattle.mt_kept.proofs.Gathering.{AreGathered, gathered_more, gathered_nothing, right_at}
use Rattle.mt_kept.proofs.Joining.{finds_are}
use Rattle.mt_kept.proofs.finds.gather.Goals as goal

pub loop-candidate-init : goal.loop-candidate-init
loop-candidate-init c = record {
  gathered = rw c.new-finds.ensures.items (gathered_nothing c.args.rules.now (map seen c.args.places.now) c.args.now c.args.place (named c.args.item.now));
  counted = none_rose _ _ _ refl;
}

pub add_candidate-requires-clause-right : goal.add_candidate-requires-clause-right
add_candidate-requires-clause-right c =
    right_at c.args.rules.now (map seen c.args.places.now) c.args.place (named c.args.item.now) c.args.candidates.now c.loop-candidate.candidate-index _
    c.requires.candidates c.loop-candidate-test.true (get_or_default c.args.candidates.now c.loop-candidate.candidate-index _ _ c.loop-candidate-test.true)

pub returns-in_err-add_candidate-clause-counted : goal.returns-in_err-add_candidate-clause-counted
returns-in_err-add_candidate-clause-counted c =
    let f = cost (map seen c.args.places.now) c.args.place c.args.item.now.call c.args.now in
    cost_part f c.args.candidates.now _ c.args.tests.now c.add_candidate.new.tests
    (cost_more f c.args.candidates.now c.loop-candidate.candidate-index _ c.args.tests.now c.loop-candidate.tests c.add_candidate.new.tests
    c.loop-candidate-test.true (get_or_default c.args.candidates.now c.loop-candidate.candidate-index _ _ c.loop-candidate-test.true)
    c.loop-candidate.invariant.counted c.in_err-add_candidate.ensures.counted)

pub loop-candidate-preserved : goal.loop-candidate-preserved
loop-candidate-preserved c =
    let f = cost (map seen c.args.places.now) c.args.place c.args.item.now.call c.args.now in
    let is = get_or_default c.args.candidates.now c.loop-candidate.candidate-index _ _ c.loop-candidate-test.true in
    record {
      gathered = gathered_more c.args.rules.now (map seen c.args.places.now) c.args.now c.args.place (named c.args.item.now) c.args.candidates.now
          c.loop-candidate.candidate-index _ c.loop-candidate.finds.items c.add_candidate.new.finds.items c.loop-candidate-test.true is
          c.requires.candidates.once c.in_ok-add_candidate.ensures.added c.loop-candidate.invariant.gathered;
      counted = cost_more f c.args.candidates.now c.loop-candidate.candidate-index _ c.args.tests.now c.loop-candidate.tests c.add_candidate.new.tests
          c.loop-candidate-test.true is c.loop-candidate.invariant.counted c.in_ok-add_candidate.ensures.counted;
    }

pub returns-clause-finds : goal.returns-clause-finds
returns-clause-finds c =
    let all = take_all c.loop-candidate.candidate-index c.args.candidates.now c.loop-candidate-test.false in
    let whole = subst (λ (xs : List Candidate). AreGathered c.args.rules.now (map seen c.args.places.now) c.args.now c.args.place (named c.args.item.now) xs
    c.loop-candidate.finds.items) all c.loop-candidate.invariant.gathered in
    λ after agree. finds_are c.args.rules.now (map seen c.args.places.now) after c.args.now c.args.place (named c.args.item.now) c.args.candidates.now
    c.loop-candidate.finds.items agree c.requires.candidates whole

pub returns-clause-counted : goal.returns-clause-counted
returns-clause-counted c = cost_part _ c.args.candidates.now _ c.args.tests.now c.loop-candidate.tests c.loop-candidate.invariant.counted
