use Rattle.mt_grid.proofs.Held.{put_members, shared_near, take_members}
use Rattle.mt_grid.proofs.laws.grid_laws.Goals as goal

pub returns-clause-put : goal.returns-clause-put
returns-clause-put c = put_members

pub returns-clause-take : goal.returns-clause-take
returns-clause-take c = take_members

pub returns-clause-near : goal.returns-clause-near
returns-clause-near c = shared_near
