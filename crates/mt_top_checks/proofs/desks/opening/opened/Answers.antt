use Rattle.std.proofs.Common.{refl, ap}
use Rattle.mt_base.specs.declared.command.Entry.{Entry}
use Rattle.mt_base.specs.Tables.{Setup}
use Rattle.mt_turn.specs.declared.view.View.{View}
use Rattle.mt_top_checks.proofs.desks.opening.opened.Goals as goal

pub split-second-requires-clause-ready : goal.split-second-requires-clause-ready
split-second-requires-clause-ready g c = c.in-Ok.ensures.ready

pub split-second-requires-clause-first : goal.split-second-requires-clause-first
split-second-requires-clause-first g c = ap (λ (v : View Entry Setup). v.number) c.in-Ok.ensures.first

pub returns-clause-ready : goal.returns-clause-ready
returns-clause-ready g c = c.split-second.ensures.ready

pub returns-clause-first : goal.returns-clause-first
returns-clause-first g c = rw (c.split-second.ensures.gives, c.in-Ok.ensures.first) (refl, refl, refl)

pub returns-clause-second : goal.returns-clause-second
returns-clause-second g c = rw (c.split-second.ensures.comes, c.in-Ok.ensures.first) refl
