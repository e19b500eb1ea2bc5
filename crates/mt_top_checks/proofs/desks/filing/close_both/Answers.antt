use Rattle.std.proofs.Common.{refl, subst, sym}
use Rattle.mt_turn.specs.Lending.{AllJoined}
use Rattle.mt_turn.specs.Views.{taker}
use Rattle.mt_top_checks.proofs.Hands.{all_joined}
use Rattle.mt_top_checks.proofs.desks.filing.close_both.Goals as goal

pub close-requires-clause-joined : goal.close-requires-clause-joined
close-requires-clause-joined c =
    let first = c.requires.first in
    subst AllJoined (sym c.join.ensures.joins) (all_joined (taker c.args.first.view c.args.second.view) (rw (first.1, first.2, c.requires.second) refl))
