use Rattle.mt_load.proofs.InputBounds.{inputs_in}
use Rattle.mt_load.proofs.Routes.{inputs_routed}
use Rattle.mt_load.proofs.laws.right_input_law.Goals as goal

pub returns-clause-bounded : goal.returns-clause-bounded
returns-clause-bounded c = λ flights number rules. inputs_in rules flights number

pub returns-clause-routed : goal.returns-clause-routed
returns-clause-routed c = λ flights number. inputs_routed flights number
