use Rattle.std.proofs.Common.{◌≡◌, ◌≤◌, ◌∷◌, [], ap, length, sym, true, ◌∙◌, arith}
use Rattle.std.proofs.lemmas.List.{length-append, take_all}
use Rattle.std.proofs.lemmas.List.Elements.{All-push}
use Rattle.mt_base.specs.Name.{is_name}
use Rattle.mt_base.specs.Settled.{due_calls, is_due}
use Rattle.mt_probe.specs.Shot.{records_in}
use Rattle.mt_probe.proofs.Whole.{few_flights}
use Rattle.mt_snapshot.specs.declared.order.Filed.{Filed}
use Rattle.mt_snapshot.specs.Private.Order.{ArePlaced}
use Rattle.mt_snapshot.proofs.Dues.{due_more, due_same}
use Rattle.mt_snapshot.proofs.Trajectories.{as_many, card_in_turn}
use Rattle.mt_snapshot.proofs.renewals.due.Goals as goal
use Rattle.mt_snapshot.proofs.renewals.due.Goals.{then-is_due+in_ok-push, else-is_due}

pub unreachable-requires : goal.unreachable-requires
unreachable-requires c =
    let shot = c.args.snapshot.now in
    let xs = c.deref-filed-items.result.now in
    let none : Filed = record { at = 0; place = 0 } in
    let placed : ArePlaced shot xs = rw c.deref-filed-items.ensures.value c.in_ok-places.ensures in
    let at = card_in_turn shot xs c.loop-filed.filed-index none placed c.loop-filed-test.true in
    let both = c.in_default.ensures ∙ at.at_is in
    cc

pub loop-filed-preserved : goal.loop-filed-preserved
loop-filed-preserved c =
    let shot = c.args.snapshot.now in
    let xs = c.deref-filed-items.result.now in
    let records = records_in shot.slots in
    let i = c.loop-filed.filed-index in
    let none : Filed = record { at = 0; place = 0 } in
    let placed : ArePlaced shot xs = rw c.deref-filed-items.ensures.value c.in_ok-places.ensures in
    let at = card_in_turn shot xs i none placed c.loop-filed-test.true in
    let found = c.in-Some.ensures ∙ at.at_is in
    let same : at.card ≡ c.in-Some.flight.now = cc in
    let due = c.is_due.ensures ∙ ap is_due (sym same) in
    elim c.if-is_due.branch [
      | then-is_due+in_ok-push w ↦
          rw (w.calls-is, w.in_ok-push.ensures.ok) (record {
            exact = rw (c.loop-filed.invariant.exact, ← same) (due_more records i at.card at.is at.below (sym due ∙ w.if-is_due.true));
            few = omega (arith, c.loop-filed.invariant.few, length-append c.loop-filed.calls (c.in-Some.flight.now.call ∷ []));
            named = All-push (λ call. is_name 1 7 call ≡ true) c.loop-filed.calls c.in-Some.flight.now.call c.loop-filed.invariant.named
                c.keeps-in-loop-filed.ensures;
          })
      | else-is_due w ↦
          rw w.calls-is (record {
            exact = c.loop-filed.invariant.exact ∙ due_same records i at.card at.is at.below (sym due ∙ w.if-is_due.false);
            few = omega (arith, c.loop-filed.invariant.few);
            named = c.loop-filed.invariant.named;
          })
    ]

pub returns-clause-exact : goal.returns-clause-exact
returns-clause-exact c =
    let shot = c.args.snapshot.now in
    let xs = c.deref-filed-items.result.now in
    let placed : ArePlaced shot xs = rw c.deref-filed-items.ensures.value c.in_ok-places.ensures in
    let count : length xs ≡ length (records_in shot.slots) = as_many shot xs (records_in shot.slots) placed in
    let past : length (records_in shot.slots) ≤ c.loop-filed.filed-index = omega (arith, count, c.loop-filed-test.false) in
    c.loop-filed.invariant.exact ∙ ap due_calls (take_all c.loop-filed.filed-index (records_in shot.slots) past)

pub returns-clause-short : goal.returns-clause-short
returns-clause-short c =
    let shot = c.args.snapshot.now in
    let xs = c.deref-filed-items.result.now in
    let placed : ArePlaced shot xs = rw c.deref-filed-items.ensures.value c.in_ok-places.ensures in
    let count : length xs ≡ length (records_in shot.slots) = as_many shot xs (records_in shot.slots) placed in
    let most = few_flights shot c.keeps.ensures.sound in
    record {
      few = omega (arith, c.loop-filed.invariant.few, c.loop-filed.auto.filed-index-end, count, most);
      named = c.loop-filed.invariant.named;
    }
