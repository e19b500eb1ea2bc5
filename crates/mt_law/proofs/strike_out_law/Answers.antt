use Rattle.mt_law.proofs.Struck.{alike_at, conflicts_at, flown_at, legal_left, published_left, same_state, what_if_at}
use Rattle.mt_law.proofs.strike_out_law.Goals as goal

pub returns-clause-legal : goal.returns-clause-legal
returns-clause-legal c = legal_left

pub returns-clause-state : goal.returns-clause-state
returns-clause-state c = same_state

pub returns-clause-published : goal.returns-clause-published
returns-clause-published c = λ setup w cs legal. published_left setup w legal cs

pub returns-clause-alike : goal.returns-clause-alike
returns-clause-alike c = λ setup w version legal. alike_at setup w legal version

pub returns-clause-flown : goal.returns-clause-flown
returns-clause-flown c = λ setup w version legal. flown_at setup w legal version

pub returns-clause-conflicts : goal.returns-clause-conflicts
returns-clause-conflicts c = λ setup w version cs legal. conflicts_at setup w legal version cs

pub returns-clause-what_if : goal.returns-clause-what_if
returns-clause-what_if c = λ setup w version call clearance eff answer legal. what_if_at setup w legal version call clearance eff answer
