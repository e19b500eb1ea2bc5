use Rattle.std.proofs.Common.{◌≡◌, ℕ, ◌+◌, ◌<◌, Bool, true, false, cond, List, [], ◌∷◌, ◌++◌, length, map, take, get_or, ◌∙◌, ap, sym, refl, arith}
use Rattle.std.proofs.lemmas.List.{append-nil, length-append, map-append, take_all, take_more}
use Rattle.std.proofs.lemmas.List.Elements.{All-push, filter-append}
use Rattle.mt_base.specs.declared.flight.Record.{Record}
use Rattle.mt_base.specs.Name.{is_name}
use Rattle.mt_base.specs.Settled.{due_calls, is_due}
use Rattle.mt_machine.proofs.due.calls_of.Goals as goal
use Rattle.mt_machine.proofs.due.calls_of.Goals.{then-is_due+in_ok-push, else-is_due}

-- the calls of one flight more
due_more : (flights : List Record) (i : ℕ) (f : Record) (due : Bool) → i < length flights → f ≡ get_or flights i f → is_due f ≡ due
    → due_calls (take (i + 1) flights) ≡ due_calls (take i flights) ++ cond due (f.call ∷ []) []
due_more flights i f due below is e =
    rw (take_more flights i f below, ← is, filter-append is_due (take i flights) (f ∷ []), map-append, e) (by_test due) where
      by_test : (due : Bool) → due_calls (take i flights) ++ map (λ (g : Record). g.call) (cond due (f ∷ []) []) ≡ due_calls (take i flights) ++ cond due (f.call ∷ []) []
      by_test true = refl
      by_test false = refl

pub loop-flight-preserved : goal.loop-flight-preserved
loop-flight-preserved c =
    elim c.if-is_due.branch [
      | then-is_due+in_ok-push w ↦
          let more = due_more c.args.flights.now c.loop-flight.flight-index c.flight-item.result true c.loop-flight-test.true c.flight-item.is (sym c.is_due.ensures ∙ w.if-is_due.true) in
          rw (w.calls-is, w.in_ok-push.ensures.ok) (
            ap (λ (calls : List (List ℕ)). calls ++ c.flight-item.result.call ∷ []) c.loop-flight.invariant.0 ∙ sym more,
            simp length-append (omega arith),
            All-push (λ (call : List ℕ). is_name 1 7 call ≡ true) c.loop-flight.calls c.flight-item.result.call c.loop-flight.invariant.2
                c.keeps.ensures,
          )
      | else-is_due w ↦
          let more = due_more c.args.flights.now c.loop-flight.flight-index c.flight-item.result false c.loop-flight-test.true c.flight-item.is (sym c.is_due.ensures ∙ w.if-is_due.false) in
          rw w.calls-is (c.loop-flight.invariant.0 ∙ sym (append-nil _) ∙ sym more, omega arith, c.loop-flight.invariant.2)
    ]

pub returns-clause-exact : goal.returns-clause-exact
returns-clause-exact c = rw (c.loop-flight.invariant.0, take_all c.loop-flight.flight-index c.args.flights.now c.loop-flight-test.false) refl
