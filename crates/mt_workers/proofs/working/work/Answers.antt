use Rattle.std.proofs.Common.{◌∙◌, refl}
use Rattle.mt_board.proofs.SeatLemmas.{change_goes_on, goes_on, goes_on_itself, same_itself, same_on}
use Rattle.mt_workers.proofs.Doing.{idle, works_all, works_on}
use Rattle.mt_workers.proofs.working.work.Goals as goal

pub loop-init : goal.loop-init
loop-init g c = record { worked = idle _ _; same = same_itself _; begins = goes_on_itself _; home = refl }

pub loop-preserved : goal.loop-preserved
loop-preserved g c =
    let so_far = c.loop.invariant in
    let on = change_goes_on _ _ _ _ c.change-renewed.ensures.changed in
    record {
      worked = works_on _ _ _ _ _ _ c.in-Some-next.job.call _ so_far.worked c.in-Some-next.ensures.jobs c.change-renewed.ensures.changed;
      same = same_on _ _ _ so_far.same on.0;
      begins = goes_on _ _ _ so_far.begins on.1;
      home = c.change-renewed.ensures.home ∙ so_far.home;
    }

pub returns-in_default-clause-worked : goal.returns-in_default-clause-worked
returns-in_default-clause-worked g c = works_all _ _ _ _ _ c.loop.invariant.worked c.in_default.ensures.jobs.0 c.in_default.ensures.jobs.1

pub returns-in_default-clause-over : goal.returns-in_default-clause-over
returns-in_default-clause-over g c = c.in_default.ensures.over
