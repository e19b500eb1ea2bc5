use Rattle.std.proofs.Common.{refl}
use Rattle.std.proofs.lemmas.Bool.{false≢true}
use Rattle.mt_area.proofs.Names.{none_taken, not_taken_more, taken_here, taken_nowhere}
use Rattle.mt_area.proofs.areas.is_taken.Goals as goal

pub loop-area-preserved : goal.loop-area-preserved
loop-area-preserved c =
    not_taken_more c.args.areas.now c.loop-area.area-index c.area-item.result c.args.name c.loop-area-test.true c.area-item.is c.if-eq.ensures c.loop-area.invariant

pub loop-area-init : goal.loop-area-init
loop-area-init c = none_taken c.args.name

pub returns : goal.returns
returns c = (
  (λ told. absurd (false≢true told)),
  (λ taken. absurd (taken_nowhere c.args.areas.now c.loop-area.area-index c.args.name c.loop-area-test.false c.loop-area.invariant taken)),
)

pub returns-then-eq : goal.returns-then-eq
returns-then-eq c = (
  (λ told. taken_here c.args.areas.now c.loop-area.area-index c.area-item.result c.args.name c.loop-area-test.true c.area-item.is c.if-eq.ensures),
  (λ taken. refl),
)
