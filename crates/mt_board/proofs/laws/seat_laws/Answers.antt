use Rattle.mt_board.proofs.SeatLemmas.{change_goes_on, change_on, looks_on, past_on, read_goes_on, renewals_add, renewals_go_on, version_entered}
use Rattle.mt_board.proofs.laws.seat_laws.Goals as goal

pub returns-clause-look_on : goal.returns-clause-look_on
returns-clause-look_on c = looks_on

pub returns-clause-change_on : goal.returns-clause-change_on
returns-clause-change_on c = change_on

pub returns-clause-read_goes_on : goal.returns-clause-read_goes_on
returns-clause-read_goes_on c = read_goes_on

pub returns-clause-change_goes_on : goal.returns-clause-change_goes_on
returns-clause-change_goes_on c = change_goes_on

pub returns-clause-renewals_go_on : goal.returns-clause-renewals_go_on
returns-clause-renewals_go_on c = renewals_go_on

pub returns-clause-renewals_add : goal.returns-clause-renewals_add
returns-clause-renewals_add c = renewals_add

pub returns-clause-past : goal.returns-clause-past
returns-clause-past c = past_on

pub returns-clause-version : goal.returns-clause-version
returns-clause-version c = version_entered
