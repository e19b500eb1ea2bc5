use Rattle.std.proofs.Common.{sym, ◌∙◌, ◌<◌, ◌+◌, ◌-◌, ◌/◌, length, arith}
use Rattle.mt_names.proofs.Splitting.{all_before, less_of, none_before, not_less_of}
use Rattle.mt_names.proofs.row.before.Goals as goal

pub loop-low-preserved-then-lt : goal.loop-low-preserved-then-lt
loop-low-preserved-then-lt c =
    let names = c.args.list.now in
    let middle = c.loop-low.low + (c.loop-low.high - c.loop-low.low) / 2 in
    let t = c.loop-low-test.true in
    let inside : middle < length names = omega arith in
    record {
      order = omega arith;
      inside = c.loop-low.invariant.inside;
      below = all_before names c.args.call c.requires.rising middle c.index-list-middle.result inside
          (less_of _ (sym c.lt.ensures ∙ c.if-lt.true));
      rest = c.loop-low.invariant.rest;
    }

pub loop-low-preserved : goal.loop-low-preserved
loop-low-preserved c =
    let names = c.args.list.now in
    let middle = c.loop-low.low + (c.loop-low.high - c.loop-low.low) / 2 in
    let t = c.loop-low-test.true in
    let inside : middle < length names = omega arith in
    record {
      order = omega arith;
      inside = omega arith;
      below = c.loop-low.invariant.below;
      rest = none_before names c.args.call c.requires.rising middle c.index-list-middle.result inside
          (not_less_of _ (sym c.lt.ensures ∙ c.if-lt.false));
    }
