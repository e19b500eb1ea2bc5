use Rattle.std.proofs.Common.{◌≡◌, ◌<◌, ℕ, get_or}
use Rattle.std.specs.Int.{bit_at}
use Rattle.mt_meet.specs.Private.Boxing.{IsCrossedIn, no_window, IsPartMarked}
use Rattle.mt_meet.specs.declared.subject.Window.{Window}
use Rattle.mt_meet.proofs.marked_parts.mark_page.Given as goal

abbrev pub invariant-loop-number : goal.invariant-loop-number
invariant-loop-number l = (place number part : ℕ) → place < 64 → number < l.number → IsCrossedIn l.page (get_or l.windows number no_window) place
    → bit_at (Window.part (get_or l.windows number no_window)) part ≡ 1 → IsPartMarked l.marks place part
