use Rattle.std.proofs.Common.{arith}
use Rattle.std.proofs.lemmas.Int.{ints}
use Rattle.mt_pair.specs.Private.Cases.{IsLoss}
use Rattle.mt_pair.proofs.Instants.{loss_is_open}
use Rattle.mt_pair.proofs.Seconds.{between_over}
use Rattle.mt_pair.proofs.approach.Approach.loses_over.Goals as goal

pub loses_inside-requires : goal.loses_inside-requires
loses_inside-requires c =
    rw (c.whole.ensures.num, c.whole.ensures.den, c.whole-2.ensures.num, c.whole-2.ensures.den) (omega (arith, ints, c.requires))

pub returns-clause-is : goal.returns-clause-is
returns-clause-is c =
    let same = between_over (IsLoss c.args.self.now) (loss_is_open c.args.self.now) _ _ c.args.low c.args.high
    c.whole.ensures.num c.whole.ensures.den c.whole-2.ensures.num c.whole-2.ensures.den in
    ((λ t. same.0 (c.loses_inside.ensures.0 t)), (λ some. c.loses_inside.ensures.1 (same.1 some)))
