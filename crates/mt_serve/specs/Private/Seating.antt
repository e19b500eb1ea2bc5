-- No public contract names these: they are of private steps and of proofs.
use Rattle.std.specs.Prelude.{◌≡◌, ◌+◌, List, [], ◌++◌, map, length, All}
use Rattle.std.specs.List.{range_with_len}
use Rattle.mt_base.specs.declared.command.Entry.{Entry}
use Rattle.mt_base.specs.Tables.{Setup}
use Rattle.mt_desk.specs.Desk.{Desk, IsSeatOfDesk}
use Rattle.mt_turn.specs.declared.view.Phase.TheVariants.{Idle}
use Rattle.mt_turn.specs.declared.view.View.{View}
use Rattle.mt_turn.specs.declared.view.Joined.{Joined}
use Rattle.mt_turn.specs.Seats.{SeatNow}
use Rattle.mt_turn.specs.Views.{joined_as, first_view}
use Rattle.mt_serve.specs.Seating.{numbers_of}

-- `IsNewSeat`, `views_of`: a seat just split off, which did nothing yet; what some seats know. The first seat knew v then.
pub record IsNewSeat (desk : Desk) (v : View Entry Setup) (s : SeatNow Entry Setup) : Type 0 where
  pub ready : IsSeatOfDesk desk s
  pub seen : s.view.seen ≡ v.seen
  pub mine : s.view.mine ≡ []

abbrev pub views_of : List (SeatNow Entry Setup) → List (View Entry Setup)
views_of seats = map (λ (s : SeatNow Entry Setup). s.view) seats

-- `HasSplit`, `joined_of`: these seats were split off the first one; what is remembered of joined seats. The first one knew v and knows w now; their
-- numbers follow those that it gave before.
pub record HasSplit (desk : Desk) (v w : View Entry Setup) (seats : List (SeatNow Entry Setup)) : Type 0 where
  pub number : w.number ≡ v.number
  pub seen : w.seen ≡ v.seen
  pub mine : w.mine ≡ v.mine
  pub joined : w.joined ≡ v.joined
  pub idle : w.phase ≡ Idle
  pub gave : w.gave ≡ v.gave ++ numbers_of seats
  pub numbers : numbers_of seats ≡ range_with_len (length v.gave + 1) (length seats)
  pub fresh : All (IsNewSeat desk v) seats

abbrev pub joined_of : List (View Entry Setup) → List (Joined Entry)
joined_of views = map joined_as views

-- seats that knew these views were joined into the first one. It knew v and knows w now.
pub record HasJoined (v w : View Entry Setup) (views : List (View Entry Setup)) : Type 0 where
  pub number : w.number ≡ v.number
  pub mine : w.mine ≡ v.mine
  pub gave : w.gave ≡ v.gave
  pub idle : w.phase ≡ Idle
  pub joined : w.joined ≡ v.joined ++ joined_of views

-- all seats are split off a new first seat. It knows w and has joined none: those for sessions have the numbers from 1 on, and those for workers come
-- after them.
pub record AllSplit (desk : Desk) (w : View Entry Setup) (seats hands : List (SeatNow Entry Setup)) : Type 0 where
  pub number : w.number ≡ 0
  pub mine : w.mine ≡ []
  pub joined : w.joined ≡ []
  pub idle : w.phase ≡ Idle
  pub gave : w.gave ≡ numbers_of seats ++ numbers_of hands
  pub numbers : numbers_of seats ≡ range_with_len 1 (length seats)
  pub fresh : All (IsNewSeat desk (first_view desk.fixed)) (seats ++ hands)
