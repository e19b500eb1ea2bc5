use Rattle.std.proofs.Common.{sym, ◌∙◌}
use Rattle.mt_track.proofs.Same.{row_decides}
use Rattle.mt_track.proofs.segment.goes_on.Goals as goal

pub returns : goal.returns
returns c =
    let test = row_decides c.row.result c.later.result in
    let same_row = c.row.ensures in
    (λ yes. sym same_row ∙ test.0 (sym c.eq.ensures ∙ yes) ∙ c.later.ensures, λ same. c.eq.ensures ∙ test.1 (same_row ∙ same ∙ sym c.later.ensures))
