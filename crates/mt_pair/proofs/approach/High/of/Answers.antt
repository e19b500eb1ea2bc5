use Rattle.mt_pair.proofs.Sizes.{sv2_kept}
use Rattle.mt_pair.proofs.approach.High.of.Goals as goal

pub excess-requires-2-clause-least_kept : goal.excess-requires-2-clause-least_kept
excess-requires-2-clause-least_kept c = sv2_kept c.args.rules.now c.requires.rules_kept
