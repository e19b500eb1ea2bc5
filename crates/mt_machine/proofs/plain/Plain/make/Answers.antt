use Rattle.mt_machine.proofs.Effects.{opening_sound}
use Rattle.mt_machine.proofs.plain.Plain.make.Goals as goal

pub returns-clause-sound : goal.returns-clause-sound
returns-clause-sound c = λ setup. rw c.new.ensures.items (opening_sound setup)
