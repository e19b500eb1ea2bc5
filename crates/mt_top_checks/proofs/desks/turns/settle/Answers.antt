use Rattle.std.proofs.Common.{sym, refl, ap, ◌∙◌, subst}
use Rattle.mt_turn.specs.Views.{taker}
use Rattle.mt_turn.specs.Lending.{AllJoined}
use Rattle.mt_top_checks.proofs.Hands.{all_joined}
use Rattle.mt_top_checks.proofs.desks.turns.settle.Goals as goal

pub close-requires-clause-joined : goal.close-requires-clause-joined
close-requires-clause-joined c =
    let is = c.join-2.ensures.joins ∙ ap (λ v. taker v c.args.third.view) c.join.ensures.joins in
    let root = c.requires.root in
    let numbers = c.requires.numbers in
    subst AllJoined (sym is)
    (all_joined (taker (taker c.args.first.view c.args.second.view) c.args.third.view) (rw (root.1, root.2, numbers.0, numbers.1) refl))
