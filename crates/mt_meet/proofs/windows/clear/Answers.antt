use Rattle.std.proofs.Common.{◌%◌, ◌∙◌}
use Rattle.mt_meet.proofs.Putting.{beside_on}
use Rattle.mt_meet.proofs.windows.clear.Goals as goal
use Rattle.mt_meet.proofs.windows.clear.Goals.{then-is_outside+in_ok-put_bounds, else-is_outside}

pub loop-window-preserved : goal.loop-window-preserved
loop-window-preserved c = elim c.if-is_outside.branch [
  | then-is_outside+in_ok-put_bounds w ↦
      rw w.page-is (record {
        full = w.in_ok-put_bounds.ensures.number ∙ c.loop-window.invariant.full;
        beside = beside_on _ c.loop-window.page w.put_bounds.new.page (c.loop-window.window % 64) c.args.place c.loop-window.invariant.beside
            w.in_ok-put_bounds.ensures.beside w.in_ok-put_bounds.ensures.elsewhere;
      })
  | else-is_outside w ↦ rw w.page-is c.loop-window.invariant
]
