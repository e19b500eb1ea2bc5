use Rattle.mt_wire.proofs.EntryLaw.{line_back, text_back}
use Rattle.mt_wire.proofs.laws.entry_back_law.Goals as goal

pub returns-clause-line : goal.returns-clause-line
returns-clause-line c = line_back

pub returns-clause-text : goal.returns-clause-text
returns-clause-text c = text_back
