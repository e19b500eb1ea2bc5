use Rattle.std.proofs.Common.{◌∙◌, Option, List, None, ap, sym, get_or}
use Rattle.mt_meet.proofs.Same.{same}
use Rattle.mt_meet.specs.Private.Boxing.{boxes_in}
use Rattle.std.specs.Option.{option_copied}
use Rattle.mt_meet.specs.declared.boxes.Boxes.{Boxes}
use Rattle.mt_meet.proofs.windows.share_page.Goals as goal

pub returns-in_ok-make-in-None-clause-same : goal.returns-in_ok-make-in-None-clause-same
returns-in_ok-make-in-None-clause-same c = λ remainder few.
    ap (λ (page : List (Option Boxes)). get_or page remainder None) c.in_ok-make-in-None.ensures ∙ same 64 remainder None None few
    ∙ sym (ap (λ page. boxes_in (option_copied page) remainder) c.in-None.is)
