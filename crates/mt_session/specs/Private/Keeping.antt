-- No public contract names these: they are of private steps and of proofs.
-- A session, with the turn that its seat is of.
use Rattle.std.specs.Prelude.{◌≡◌, Bool, List, All}
use Rattle.mt_base.specs.Picture.{State}
use Rattle.mt_base.specs.Tables.{Setup}
use Rattle.mt_board.specs.Probing.{IsPast, ToldProbe}
use Rattle.mt_board.specs.BoardSeat.{BoardSeat, GoesOn, IsSameSeat}
use Rattle.mt_session.specs.Session.{Session}

-- a session, the turn that its seat is of, and whether its board keeps a look at the picture
pub record ServingNow (H : Type 0) : Type 0 where
  pub session : Session
  pub home : H
  pub keeps_look : Bool

-- each probe that is kept was tried on the state of the first entries that the seat has seen, as many as its version says
abbrev pub ArePast : {P : Type 0} → (P → ToldProbe) → (P → Setup) → (P → State) → BoardSeat → List P → Type 0
ArePast told fixed state seat probes = All (λ p. IsPast seat (fixed p) (state p) (told p).version) probes

-- from one call to the next it is the same seat, of the same turn, and has seen all that it had seen
pub record StaysOn {H : Type 0} (old new : ServingNow H) : Type 0 where
  pub same : IsSameSeat old.session.seat new.session.seat
  pub begins : GoesOn old.session.seat.seen new.session.seat.seen
  pub home : new.home ≡ old.home
