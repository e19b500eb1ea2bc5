use Rattle.std.proofs.Common.{arith}
use Rattle.std.proofs.lemmas.Int.{to_z-of_z}
use Rattle.mt_pair.proofs.Low.{copied_some, quiet_high, quiet_low}
use Rattle.mt_pair.proofs.Wholes.{wide_fits}
use Rattle.mt_pair.proofs.approach.Approach.is_quiet.Goals as goal

pub are_quiet-requires-clause-convex : goal.are_quiet-requires-clause-convex
are_quiet-requires-clause-convex c = let s = wide_fits c.args.self.now.gap c.args.self.now.gap_bounded in grind (arith, to_z-of_z)

pub are_quiet-requires-2-clause-convex : goal.are_quiet-requires-2-clause-convex
are_quiet-requires-2-clause-convex c = let s = wide_fits c.args.self.now.gap c.args.self.now.gap_bounded in grind (arith, to_z-of_z)

pub returns-in_default-clause-is : goal.returns-in_default-clause-is
returns-in_default-clause-is c = λ _. quiet_low c.args.self.now 0 c.args.seconds c.in_default.is (c.are_quiet.ensures c.if-not-are_quiet.false)

pub returns-clause-is : goal.returns-clause-is
returns-clause-is c = λ yes. quiet_high c.args.self.now c.in-Some.high.now 0 c.args.seconds (copied_some c.args.self.now c.in-Some.high c.in-Some.is) (c.are_quiet.ensures c.if-not-are_quiet.false) (c.are_quiet-2.ensures yes)
