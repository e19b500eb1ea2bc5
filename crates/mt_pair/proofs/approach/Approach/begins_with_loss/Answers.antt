use Rattle.std.proofs.Common.{arith, pos, ◌<ℤ◌}
use Rattle.std.proofs.lemmas.Int.{to_z-of_z}
use Rattle.mt_pair.proofs.Low.{at_start}
use Rattle.mt_pair.proofs.Wholes.{gap_fits, line_fits}
use Rattle.mt_pair.proofs.approach.Approach.begins_with_loss.Goals as goal

pub returns-clause-is : goal.returns-clause-is
returns-clause-is c = λ yes.
    let x = c.args.self.now in
    let g = gap_fits x.gap 0 x.gap_bounded (omega arith) in
    let o = line_fits x.over 0 x.over_bounded (omega arith) in
    let u = line_fits x.under 0 x.under_bounded (omega arith) in
    let gap : x.gap.c <ℤ pos 0 = grind (arith, to_z-of_z) in
    let over : x.over.c <ℤ pos 0 = grind (arith, to_z-of_z) in
    let under : x.under.c <ℤ pos 0 = grind (arith, to_z-of_z) in
    at_start x gap over under
