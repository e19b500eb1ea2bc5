use Rattle.mt_base.specs.Conflict.{IsLossSecond}
use Rattle.mt_pair.proofs.Solids.{IsSolid-together}
use Rattle.mt_pair.proofs.overlap.part.Goals as goal

pub returns-else-is_none-clause-solid : goal.returns-else-is_none-clause-solid
returns-else-is_none-clause-solid c = λ yes.
    IsSolid-together (IsLossSecond c.args.rules.now c.args.a.now c.args.b.now) c.args.from c.args.to c.span_in-span.result
    (c.are_together-solid.ensures yes c.args.rules.now c.requires.rules_kept) c.span_in-span.ensures.conflict
