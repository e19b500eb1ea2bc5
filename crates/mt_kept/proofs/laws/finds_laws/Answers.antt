use Rattle.mt_kept.proofs.Costs.{cost_sum}
use Rattle.mt_kept.proofs.Gathering.{rising_once}
use Rattle.mt_kept.proofs.Joining.{finds_none, finds_one}
use Rattle.mt_kept.proofs.laws.finds_laws.Goals as goal

pub returns-clause-one : goal.returns-clause-one
returns-clause-one c = finds_one

pub returns-clause-none : goal.returns-clause-none
returns-clause-none c = finds_none

pub returns-clause-rising : goal.returns-clause-rising
returns-clause-rising c = rising_once

pub returns-clause-costs : goal.returns-clause-costs
returns-clause-costs c = cost_sum
