use Rattle.std.proofs.Common.{FitsSigned, rules, w32}
use Rattle.std.proofs.lemmas.Int.{to_z-of_z}
use Rattle.mt_meet.proofs.Touching.{touching}
use Rattle.mt_meet.proofs.meeting.touch.Goals as goal

pub returns : goal.returns
returns c =
    let a_low : FitsSigned w32 c.args.a.now.low = search rules in
    let a_high : FitsSigned w32 c.args.a.now.high = search rules in
    let b_low : FitsSigned w32 c.args.b.now.low = search rules in
    let b_high : FitsSigned w32 c.args.b.now.high = search rules in
    rw (to_z-of_z w32 c.args.a.now.low a_low, to_z-of_z w32 c.args.a.now.high a_high, to_z-of_z w32 c.args.b.now.low b_low, to_z-of_z w32 c.args.b.now.high b_high)
    (touching c.args.a.now c.args.b.now)
