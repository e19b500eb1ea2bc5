-- No public contract names these: they are of private steps and of proofs.
use Rattle.std.specs.Prelude.{◌≡◌, ◌≤◌, ℕ, Bool, List, [], ◌++◌, map, length, All}
use Rattle.std.specs.List.{count_by}
use Rattle.mt_base.specs.declared.command.Entry.{Entry}
use Rattle.mt_base.specs.Tables.{Setup}
use Rattle.mt_desk.specs.Desk.{Desk, IsSeatOfDesk}
use Rattle.mt_turn.specs.Seats.{SeatNow}
use Rattle.mt_serve.specs.Working.{Worked, staff_of}

-- `froms_of`, `rests_of`: the seats that workers were given, and those that they gave back
abbrev pub froms_of : List Worked → List (SeatNow Entry Setup)
froms_of works = map (λ (w : Worked). w.from) works

abbrev pub rests_of : List Worked → List (SeatNow Entry Setup)
rests_of works = map (λ (w : Worked). w.seat) works

-- `Begun`, `seats_begun`, `started_of`, `begun_as`: the seat that a worker was given, and whether a thread was started for it
pub record Begun : Type 0 where
  pub seat : SeatNow Entry Setup
  pub is_started : Bool

abbrev pub seats_begun : List Begun → List (SeatNow Entry Setup)
seats_begun begun = map (λ (b : Begun). b.seat) begun

abbrev pub started_of : List Begun → ℕ
started_of begun = count_by (λ (b : Begun). b.is_started) begun

abbrev pub begun_as : Worked → Begun
begun_as w = record { seat = w.from; is_started = w.has_worked }

-- what it takes to start workers. Seats of this desk, and room for so many that work and so many that have ended.
pub record IsStaffed (desk : Desk) (seats : List (SeatNow Entry Setup)) (many working ended : ℕ) (workings : List Begun) (resteds : List Worked) : Type 0 where
  pub ready : All (IsSeatOfDesk desk) seats
  pub first : many ≤ working
  pub second : many ≤ ended
  pub no_working : workings ≡ []
  pub no_rested : resteds ≡ []

-- of these seats the first went to workers that are over; so many of these had a thread
pub record HasStaffed (desk : Desk) (hands rest : List (SeatNow Entry Setup)) (resteds : List Worked) (staff many : ℕ) : Type 0 where
  pub hands_are : hands ≡ froms_of resteds ++ rest
  pub ready : All (IsSeatOfDesk desk) rest
  pub staff_is : staff ≡ staff_of resteds
  pub few : length resteds ≤ many
