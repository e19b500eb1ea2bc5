-- What a seat knows of the one history.
use Rattle.std.specs.Prelude.{◌≡◌, ◌==◌, ℕ, List, ◌++◌, filter, length}
use Rattle.mt_base.specs.declared.command.Entry.{Entry}
use Rattle.mt_base.specs.Bounds.{AreWithinBounds}
use Rattle.mt_base.specs.Effect.{state_of}
use Rattle.mt_base.specs.History.{IsLegal}
use Rattle.mt_base.specs.Picture.{State}
use Rattle.mt_base.specs.Tables.{Setup}

-- a seat's number, history seen, own entries, rules and tables
pub record BoardSeat : Type 0 where
  pub number : ℕ
  pub seen : List Entry
  pub mine : List Entry
  pub fixed : Setup

-- the state that a seat has seen
abbrev pub state_seen : BoardSeat → State
state_seen s = state_of s.fixed s.seen

-- a history goes on from a front
abbrev pub GoesOn : List Entry → List Entry → Type 0
GoesOn front history = (later : List Entry) × (history ≡ front ++ later)

-- the entries of a seat, in order
abbrev pub entries_by : ℕ → List Entry → List Entry
entries_by number history = filter (λ (e : Entry). e.who == number) history

-- the same seat: its number, rules and tables
pub record IsSameSeat (s t : BoardSeat) : Type 0 where
  pub number : t.number ≡ s.number
  pub fixed : t.fixed ≡ s.fixed

-- a seat saw more entries, none of its own
pub record HasLooked (s t : BoardSeat) : Type 0 where
  pub same : IsSameSeat s t
  pub begins : GoesOn s.seen t.seen
  pub own : entries_by t.number t.seen ≡ entries_by s.number s.seen
  pub mine : t.mine ≡ s.mine

-- a seat saw a legal history; its own entries agree
pub record IsSeatSound (s : BoardSeat) : Type 0 where
  pub rules : AreWithinBounds s.fixed.rules
  pub legal : IsLegal s.fixed s.seen
  pub mine : entries_by s.number s.seen ≡ s.mine

-- a seat saw the history of that version, entering nothing
pub record HasSeen (s t : BoardSeat) (version : ℕ) : Type 0 where
  pub looked : HasLooked s t
  pub version_is : version ≡ length t.seen
  pub sound : IsSeatSound t
