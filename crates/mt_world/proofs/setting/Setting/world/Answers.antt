use Rattle.mt_world.proofs.WorldLemmas.{legal_none}
use Rattle.mt_world.proofs.setting.Setting.world.Goals as goal

-- the picture is an opening one
pub make-requires-2 : goal.make-requires-2
make-requires-2 c = rw c.in_ok-picture.ensures (legal_none _)
