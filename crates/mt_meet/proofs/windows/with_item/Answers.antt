use Rattle.std.proofs.Common.{◌∙◌, Option, ap}
use Rattle.mt_meet.specs.Private.Boxing.{bounds_in}
use Rattle.mt_meet.specs.declared.boxes.Boxes.{Boxes}
use Rattle.mt_meet.proofs.windows.with_item.Goals as goal

pub returns-clause-beside : goal.returns-clause-beside
returns-clause-beside c = λ remainder other few within apart.
    c.in_ok-put_item.ensures.beside remainder other within apart
    ∙ ap (λ (b : Option Boxes). bounds_in b other) (c.in_ok-after.ensures.same remainder few)
