use Rattle.std.proofs.Common.{◌∙◌, sym, ap, unwrap_or}
use Rattle.mt_meet.proofs.Equal.{bounds_decides}
use Rattle.mt_meet.specs.Private.Boxing.{bounds_in}
use Rattle.mt_meet.proofs.windows.put_bounds.Goals as goal

pub returns-then-eq-clause-own : goal.returns-then-eq-clause-own
returns-then-eq-clause-own c = sym (c.bounds_in.ensures ∙ ap (λ boxes. bounds_in boxes c.args.place) c.get-before.ensures)
    ∙ (bounds_decides c.bounds_in.result c.unwrap_or-bounds.result).0 (sym c.eq.ensures ∙ c.if-eq.true)
    ∙ c.unwrap_or-bounds.ensures ∙ ap (unwrap_or c.args.bounds) c.nowhere.ensures
