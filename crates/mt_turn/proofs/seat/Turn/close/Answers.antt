use Rattle.std.proofs.Common.{sym, subst}
use Rattle.mt_turn.specs.Lending.{AllJoined}
use Rattle.mt_turn.proofs.seat.Turn.close.Goals as goal

pub close-requires-clause-joined : goal.close-requires-clause-joined
close-requires-clause-joined g c = subst AllJoined (sym c.into_token.ensures.view) c.requires.joined
