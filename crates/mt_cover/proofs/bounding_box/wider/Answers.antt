use Rattle.mt_track.proofs.Bits.{narrow_near}
use Rattle.mt_cover.proofs.Numbers.{by_near, wider_is}
use Rattle.mt_cover.proofs.bounding_box.wider.Goals as goal

pub narrow-by-requires : goal.narrow-by-requires
narrow-by-requires c = narrow_near c.args.by (by_near c.args.by c.requires.by_kept)

pub overflow_sub-result : goal.overflow_sub-result
overflow_sub-result c =
    let w = wider_is c.args.e c.args.by c.narrow-by.result c.requires.kept c.requires.by_kept c.narrow-by.ensures in
    w.low_fits

pub overflow_add-result : goal.overflow_add-result
overflow_add-result c =
    let w = wider_is c.args.e c.args.by c.narrow-by.result c.requires.kept c.requires.by_kept c.narrow-by.ensures in
    w.high_fits

pub returns-clause-is : goal.returns-clause-is
returns-clause-is c =
    let w = wider_is c.args.e c.args.by c.narrow-by.result c.requires.kept c.requires.by_kept c.narrow-by.ensures in
    let low = w.low_is in
    let high = w.high_is in
    λ i. record { low = low i; high = high i }

pub returns-clause-kept : goal.returns-clause-kept
returns-clause-kept c =
    let w = wider_is c.args.e c.args.by c.narrow-by.result c.requires.kept c.requires.by_kept c.narrow-by.ensures in
    rw (w.low_is, w.high_is) w.kept
