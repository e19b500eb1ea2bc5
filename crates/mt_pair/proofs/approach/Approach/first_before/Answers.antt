use Rattle.std.proofs.lemmas.Bool.Decides.{not_from_Decides}
use Rattle.mt_track.proofs.Halving.{none_over}
use Rattle.mt_pair.proofs.Spans.{least_first}
use Rattle.mt_frac.specs.Instants.{HoldsIn}
use Rattle.mt_pair.specs.Private.Cases.{IsLoss}
use Rattle.mt_pair.proofs.approach.Approach.first_before.Goals as goal

pub first_over-requires-clause-some : goal.first_over-requires-clause-some
first_over-requires-clause-some c = c.loses_over.ensures.is.0 c.if-not-loses_over.false

pub returns-then-begins_with_loss-clause-is : goal.returns-then-begins_with_loss-clause-is
returns-then-begins_with_loss-clause-is c = least_first _ c.args.seconds c.requires.some (c.begins_with_loss.ensures.is c.if-begins_with_loss.true)

pub returns-then-is_quiet-clause-is : goal.returns-then-is_quiet-clause-is
returns-then-is_quiet-clause-is c = λ k begun ahead. none_over (HoldsIn (IsLoss c.args.self.now)) _ _ k (c.is_quiet.ensures.is c.if-is_quiet.true) begun ahead

pub returns-then-keeps_distance-clause-is : goal.returns-then-keeps_distance-clause-is
returns-then-keeps_distance-clause-is c = λ k begun ahead. none_over (HoldsIn (IsLoss c.args.self.now)) _ _ k (c.keeps_distance.ensures.is c.if-keeps_distance.true 0 c.args.seconds) begun ahead

pub returns-then-not-loses_over-clause-is : goal.returns-then-not-loses_over-clause-is
returns-then-not-loses_over-clause-is c = λ k begun ahead.
    none_over (HoldsIn (IsLoss c.args.self.now)) _ _ k (not_from_Decides _ c.loses_over.ensures.is c.if-not-loses_over.true) begun ahead

pub returns-clause-is : goal.returns-clause-is
returns-clause-is c = c.first_over.ensures.is
