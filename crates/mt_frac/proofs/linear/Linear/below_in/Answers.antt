use Rattle.mt_ring.proofs.Signs.{weaken}
use Rattle.mt_frac.specs.Polynomials.{line_value}
use Rattle.mt_frac.proofs.Comparisons.{ge_no, ge_yes, le_no, le_yes, not_0_above, not_0_below}
use Rattle.mt_frac.proofs.Fractions.{at_most_trans, positive, trans_at_most}
use Rattle.mt_frac.proofs.Overflow.{line_fits}
use Rattle.mt_frac.proofs.Parts.{both_above, both_below, falls, rises, below_after, after_below, below_before, before_below, root_at_least, root_at_most}
use Rattle.mt_frac.proofs.linear.Linear.below_in.Goals as goal

pub returns-then-at_hi-ge0 : goal.returns-then-at_hi-ge0
returns-then-at_hi-ge0 c =
    let line = c.args.self in
    let lo = c.args.lo in
    let hi = c.args.hi in
    λ n d d+ between. both_above line.b line.c n d lo.num lo.den hi.num hi.den d+ (positive lo) (positive hi) between.after between.until
    (ge_yes _ (line_value line.b line.c lo.num lo.den) c.value_at-at_lo.ensures (line_fits line lo c.requires.coefficients).fits_all c.if-at_lo-ge0.true) (ge_yes _ (line_value line.b line.c hi.num hi.den) c.value_at-at_hi.ensures (line_fits line hi c.requires.coefficients).fits_all c.if-at_hi-ge0.true)

pub root-requires-clause-inclined : goal.root-requires-clause-inclined
root-requires-clause-inclined c =
    let line = c.args.self in
    let lo = c.args.lo in
    let hi = c.args.hi in
    let b- = falls line.b line.c lo.num lo.den hi.num hi.den (positive lo) (positive hi) c.requires.ordered
    (ge_yes _ (line_value line.b line.c lo.num lo.den) c.value_at-at_lo.ensures (line_fits line lo c.requires.coefficients).fits_all c.if-at_lo-ge0.true) (ge_no _ (line_value line.b line.c hi.num hi.den) c.value_at-at_hi.ensures (line_fits line hi c.requires.coefficients).fits_all c.if-at_hi-ge0.false) in
    λ zero. not_0_below line.b b- zero

-- it falls: the part is from the root to hi
pub returns-then-at_lo-ge0 : goal.returns-then-at_lo-ge0
returns-then-at_lo-ge0 c =
    let line = c.args.self in
    let lo = c.args.lo in
    let hi = c.args.hi in
    let root = c.root.result in
    let lo+ = positive lo in
    let hi+ = positive hi in
    let root+ = positive root in
    let low = ge_yes _ (line_value line.b line.c lo.num lo.den) c.value_at-at_lo.ensures (line_fits line lo c.requires.coefficients).fits_all c.if-at_lo-ge0.true in
    let high = ge_no _ (line_value line.b line.c hi.num hi.den) c.value_at-at_hi.ensures (line_fits line hi c.requires.coefficients).fits_all c.if-at_hi-ge0.false in
    let b- = falls line.b line.c lo.num lo.den hi.num hi.den lo+ hi+ c.requires.ordered low high in
    let begins = root_at_least line.b line.c root.num root.den lo.num lo.den root+ b- c.root.ensures low in
    record {
      ordered = below_after line.b line.c root.num root.den hi.num hi.den root+ b- c.root.ensures high;
      exact = λ n d d+. (
        (λ part. record {
          between = record {
            after = at_most_trans lo.num lo.den root.num root.den n d lo+ root+ d+ begins part.after;
            until = part.until;
          };
          below = after_below line.b line.c root.num root.den n d root+ b- c.root.ensures part.after;
        }),
        (λ at. record {
          after = below_after line.b line.c root.num root.den n d root+ b- c.root.ensures at.below;
          until = at.between.until;
        }),
      );
    }

-- it is below 0 on the whole interval
pub returns-then-at_hi-le0 : goal.returns-then-at_hi-le0
returns-then-at_hi-le0 c =
    let line = c.args.self in
    let lo = c.args.lo in
    let hi = c.args.hi in
    let lo+ = positive lo in
    let hi+ = positive hi in
    let low = ge_no _ (line_value line.b line.c lo.num lo.den) c.value_at-at_lo.ensures (line_fits line lo c.requires.coefficients).fits_all c.if-at_lo-ge0.false in
    let high = le_yes _ (line_value line.b line.c hi.num hi.den) c.value_at-at_hi.ensures (line_fits line hi c.requires.coefficients).fits_all c.if-at_hi-le0.true in
    record {
      ordered = c.requires.ordered;
      exact = λ n d d+. (
        (λ part. record {
          between = part;
          below = both_below line.b line.c n d lo.num lo.den hi.num hi.den d+ lo+ hi+ part.after part.until low high;
        }),
        (λ at. at.between),
      );
    }

pub root-requires-2-clause-inclined : goal.root-requires-2-clause-inclined
root-requires-2-clause-inclined c =
    let line = c.args.self in
    let lo = c.args.lo in
    let hi = c.args.hi in
    let b+ = rises line.b line.c lo.num lo.den hi.num hi.den (positive lo) (positive hi) c.requires.ordered
    (ge_no _ (line_value line.b line.c lo.num lo.den) c.value_at-at_lo.ensures (line_fits line lo c.requires.coefficients).fits_all c.if-at_lo-ge0.false) (weaken (le_no _ (line_value line.b line.c hi.num hi.den) c.value_at-at_hi.ensures (line_fits line hi c.requires.coefficients).fits_all c.if-at_hi-le0.false)) in
    λ zero. not_0_above line.b b+ zero

-- it rises: the part is from lo to the root
pub returns : goal.returns
returns c =
    let line = c.args.self in
    let lo = c.args.lo in
    let hi = c.args.hi in
    let root = c.root-2.result in
    let lo+ = positive lo in
    let hi+ = positive hi in
    let root+ = positive root in
    let low = ge_no _ (line_value line.b line.c lo.num lo.den) c.value_at-at_lo.ensures (line_fits line lo c.requires.coefficients).fits_all c.if-at_lo-ge0.false in
    let high = weaken (le_no _ (line_value line.b line.c hi.num hi.den) c.value_at-at_hi.ensures (line_fits line hi c.requires.coefficients).fits_all c.if-at_hi-le0.false) in
    let b+ = rises line.b line.c lo.num lo.den hi.num hi.den lo+ hi+ c.requires.ordered low high in
    let ends = root_at_most line.b line.c root.num root.den hi.num hi.den root+ b+ c.root-2.ensures high in
    record {
      ordered = below_before line.b line.c root.num root.den lo.num lo.den root+ b+ c.root-2.ensures low;
      exact = λ n d d+. (
        (λ part. record {
          between = record {
            after = part.after;
            until = trans_at_most n d root.num root.den hi.num hi.den d+ root+ hi+ part.until ends;
          };
          below = before_below line.b line.c root.num root.den n d root+ b+ c.root-2.ensures part.until;
        }),
        (λ at. record {
          after = at.between.after;
          until = below_before line.b line.c root.num root.den n d root+ b+ c.root-2.ensures at.below;
        }),
      );
    }
