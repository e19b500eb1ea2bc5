use Rattle.mt_area.proofs.Tellings.{gathered_more}
use Rattle.mt_area.proofs.telling.gathered.Goals as goal

pub loop-part-preserved : goal.loop-part-preserved
loop-part-preserved c =
    gathered_more c.loop-part.yielded c.in-Some.part c.in_ok-part.part c.loop-part.found c.add_all.new.found c.loop-part.invariant c.in_ok-part.was c.in_ok-add_all.ensures
