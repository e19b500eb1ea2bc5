use Rattle.mt_cover.proofs.Numbers.{IsHigh-32, IsWithin-max, IsWithin-min, high_is}
use Rattle.mt_cover.proofs.heights.both.Goals as goal

pub returns-clause-kept : goal.returns-clause-kept
returns-clause-kept c =
    let low = rw (high_is c.args.a.low c.requires.a_kept.low, high_is c.args.b.low c.requires.b_kept.low) at c.min.ensures.value in
    let high = rw (high_is c.args.a.high c.requires.a_kept.high, high_is c.args.b.high c.requires.b_kept.high) at c.max.ensures.value in
    record {
      low = IsHigh-32 c.min.result (rw low (IsWithin-min _ _ c.args.a.low c.args.b.low c.requires.a_kept.low c.requires.b_kept.low));
      high = IsHigh-32 c.max.result (rw high (IsWithin-max _ _ c.args.a.high c.args.b.high c.requires.a_kept.high c.requires.b_kept.high));
    }
