use Rattle.std.proofs.Common.{refl}
use Rattle.mt_load.specs.Draws.{drawn}
use Rattle.mt_load.proofs.DrawLemmas.{next_is}
use Rattle.mt_load.proofs.draws.Draws.draw.Goals as goal

pub returns-clause-state : goal.returns-clause-state
returns-clause-state c = next_is c.self.inside.state c.args.self.now (cc)

pub returns-clause-value : goal.returns-clause-value
unfolding drawn
returns-clause-value c = refl
