use Rattle.std.proofs.Common.{◌≡◌, take}
use Rattle.mt_session.specs.Private.Keeping.{StaysOn}
use Rattle.mt_session.specs.Session.{with_seat}
use Rattle.mt_session.proofs.Renewals.{HasRenewed}
use Rattle.mt_session.proofs.serving.Serving.settled.Given as goal

abbrev pub invariant-loop-call : goal.invariant-loop-call
invariant-loop-call g l = record {
  renewed : HasRenewed l.initial.self.session.seat (take l.call-index l.call-items) l.self.session.seat;
  same : l.self.session ≡ with_seat l.initial.self.session l.self.session.seat;
  on : StaysOn l.initial.self l.self;
}
