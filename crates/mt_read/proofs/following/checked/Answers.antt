use Rattle.std.proofs.Common.{[], sym}
use Rattle.mt_read.specs.Following.{reading_layout}
use Rattle.mt_read.proofs.ReadingLemmas.{gives, nothing, read_is}
use Rattle.mt_read.proofs.following.checked.Goals as goal

pub returns-in_err-faults : goal.returns-in_err-faults
returns-in_err-faults c =
    gives c.from_residual.result c.in_err-faults.field-0.0 _ c.from_residual.ensures.1 (read_is _ _ _ _ _ _ (reading_layout c.args.word) (λ _. []) _ _
    _ c.of-reading.ensures c.answered-asked.ensures c.actor-who.ensures (nothing _) c.in_err-faults.ensures)

pub returns : goal.returns
returns c =
    sym (read_is _ _ _ _ _ _ (reading_layout c.args.word) (λ _. []) _ _ _ c.of-reading.ensures c.answered-asked.ensures c.actor-who.ensures (nothing _)
    c.in_ok-faults.ensures)
