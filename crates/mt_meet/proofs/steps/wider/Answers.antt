use Rattle.mt_meet.proofs.Layers.{widened}
use Rattle.mt_meet.proofs.steps.wider.Goals as goal

pub overflow_cast-by : goal.overflow_cast-by
overflow_cast-by c = let w = widened c.args.layer.now c.args.by c.requires.kept c.requires.by_kept in w.by_fits

pub overflow_sub-result : goal.overflow_sub-result
overflow_sub-result c = let w = widened c.args.layer.now c.args.by c.requires.kept c.requires.by_kept in w.low_fits

pub overflow_add-result : goal.overflow_add-result
overflow_add-result c = let w = widened c.args.layer.now c.args.by c.requires.kept c.requires.by_kept in w.high_fits

pub returns : goal.returns
returns c =
    let w = widened c.args.layer.now c.args.by c.requires.kept c.requires.by_kept in
    let low = w.low_is in
    let high = w.high_is in
    λ i. record { low = low i; high = high i }
