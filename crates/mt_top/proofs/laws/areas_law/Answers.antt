use Rattle.mt_world.proofs.Adding.{when_false}
use Rattle.mt_world.proofs.Keeping.{when_true}
use Rattle.mt_top.proofs.laws.areas_law.Goals as goal

pub returns-clause-told : goal.returns-clause-told
returns-clause-told c = λ w who reply next begun told. when_true w.begun _ _ begun told

pub returns-clause-added : goal.returns-clause-added
returns-clause-added c = λ w who area reply next before added. when_false w.begun _ _ before added
