-- What no call of a hand changes.
use Rattle.std.specs.Prelude.{◌≡◌}
use Rattle.mt_base.specs.declared.command.Entry.{Entry}
use Rattle.mt_base.specs.Tables.{Setup}
use Rattle.mt_turn.specs.Seats.{SeatNow}
use Rattle.mt_desk.specs.Desk.{Hand}

-- the same seat, of which nothing was split off and into which nothing was joined
pub record IsSameSeatNow (p q : SeatNow Entry Setup) : Type 0 where
  pub number : q.view.number ≡ p.view.number
  pub gave : q.view.gave ≡ p.view.gave
  pub joined : q.view.joined ≡ p.view.joined

-- the same hand, of the same desk
pub record IsSameHand (h k : Hand) : Type 0 where
  pub home : k.desk.home ≡ h.desk.home
  pub fixed : k.desk.fixed ≡ h.desk.fixed
  pub number : k.view.number ≡ h.view.number
  pub gave : k.view.gave ≡ h.view.gave
  pub joined : k.view.joined ≡ h.view.joined
