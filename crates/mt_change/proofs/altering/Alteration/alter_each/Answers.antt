use Rattle.std.proofs.Common.{get_or, sym, ◌∙◌, ap}
use Rattle.mt_base.specs.Effect.{changed}
use Rattle.mt_change.specs.Altered.{altered_path}
use Rattle.mt_change.proofs.Changed.{changed_one, changed_other, element_is, one_changed}
use Rattle.mt_change.proofs.altering.Alteration.alter_each.Goals as goal
use Rattle.mt_change.proofs.altering.Alteration.alter_each.Goals.{then-eq, else-eq}

pub loop-flight-preserved : goal.loop-flight-preserved
loop-flight-preserved c =
    let f = changed c.args.call (altered_path c.args.self.now) in
    let d = c.flight-item.result in
    let old = c.args.flights.now in
    let i = c.loop-flight.flight-index in
    let item = element_is f c.loop-flight.flights old i d c.loop-flight-test.true c.loop-flight.invariant in
    elim c.if-eq.branch [
      | then-eq w ↦
          rw (w.flights-is, w.alter_path.ensures) (one_changed f c.loop-flight.flights old i d c.loop-flight-test.true c.loop-flight.invariant
          (record (get_or c.loop-flight.flights i d) { path = altered_path c.args.self.now (get_or c.loop-flight.flights i d).path })
          (changed_one c.args.call (altered_path c.args.self.now) (get_or c.loop-flight.flights i d) (sym c.eq.ensures ∙ w.if-eq.true) ∙ ap f item))
      | else-eq w ↦
          rw w.flights-is (one_changed f c.loop-flight.flights old i d c.loop-flight-test.true c.loop-flight.invariant (get_or c.loop-flight.flights i d)
          (sym (changed_other c.args.call (altered_path c.args.self.now) (get_or c.loop-flight.flights i d) (sym c.eq.ensures ∙ w.if-eq.false)) ∙ ap f item))
    ]
