-- What stands once all sessions are over: one history, and what each link was answered from it.
use Rattle.std.specs.Prelude.{◌≡◌, ◌<◌, ◌≤◌, ◌⊎◌, ℕ, Bool, true, MatchBool, List, [], map, length, All, Contains, Option, Some}
use Rattle.std.specs.List.{range_with_len}
use Rattle.mt_base.specs.declared.command.Entry.{Entry}
use Rattle.mt_base.specs.Tables.{Setup}
use Rattle.mt_io.specs.Causes.{Rose}
use Rattle.mt_io.specs.Door.{Count, Gains, LosesFront}
use Rattle.mt_io.specs.declared.source.Source as Source
use Rattle.mt_io.specs.declared.sink.Sink as Sink
use Rattle.mt_turn.specs.Views.{Extends, entries_of}
use Rattle.mt_serve.specs.Seating.{numbers_of}
use Rattle.mt_serve.specs.Serving.{HasServed}
use Rattle.mt_serve.specs.Sitting.{HaveNoChannel, SessionRun, links_of, seats_of, starts_of}
use Rattle.mt_serve.specs.Working.{IsRenewal, IsRested, Worked, staff_of}

-- `number_of`, `backs_of`: the number of an entry's actor, and links given back
abbrev pub number_of : Entry → ℕ
number_of e = e.who

abbrev pub backs_of : {L : Type 0} → List (SessionRun L) → List L
backs_of {L} runs = map (λ (m : SessionRun L). m.link) runs

-- `Doorway`, `doorway_of`: a door's counts, links left, links back and faults
pub record Doorway (L : Type 0) : Type 0 where
  pub count : Count
  pub still : Option (List L)
  pub returned : Option (List L)
  pub faults : ℕ

abbrev pub doorway_of : {D L : Type 0} → (D → Count) → (D → Option (List L)) → (D → Option (List L)) → (D → ℕ) → D → Doorway L
doorway_of count still returned faults door = record { count = count door; still = still door; returned = returned door; faults = faults door }

-- one of the sessions has this number
abbrev pub IsSessions : {L : Type 0} → List (SessionRun L) → ℕ → Type 0
IsSessions {L} runs n = (m : SessionRun L) × Contains runs m × (m.seat.view.number ≡ n)

module _ {L : Type 0} (source : Source.Ghosts L) (sink : Sink.Ghosts L) where
  -- a session saw a front of the history; the entries of its number are its own. It began with nothing seen and nothing of its own.
  pub record IsInHistory (setup : Setup) (h : List Entry) (m : SessionRun L) : Type 0 where
    pub number : m.seat.view.number ≡ m.from.seat.view.number
    pub fixed : m.from.seat.view.fixed ≡ Some setup
    pub began : (m.from.seat.view.seen ≡ []) × (m.from.seat.view.mine ≡ [])
    pub served : HasServed source sink m.from.link m.from.seat m.from.has_channel m.link m.seat m.outcome
    pub begins : Extends m.seat.view.seen h
    pub mine : entries_of number_of m.seat.view.number h ≡ m.seat.view.mine

  -- one history holds all sessions, numbered from 1; other entries are renewals
  pub record IsTied (setup : Setup) (h : List Entry) (runs : List (SessionRun L)) : Type 0 where
    pub numbers : numbers_of (seats_of (starts_of runs)) ≡ range_with_len 1 (length runs)
    pub each : All (IsInHistory setup h) runs
    pub others : (e : Entry) → Contains h e → IsSessions runs e.who ⊎ IsRenewal e

  -- each link that the door gave was served and is back, tied by one history. The door was asked for a port and so many sessions, and gave that many
  -- links, or failed while some were to come. They are back in order. Where the door doesn't listen, no link was given. At most so
  -- many workers were beside them, all of whose entries are renewals; where none worked until no job would come, no session had a channel.
  pub record HasServedAll (setup : Setup) (port sessions workers : ℕ) (old new : Doorway L) (faulted : Bool) (h : List Entry) (runs : List (SessionRun L)) : Type 0 where
    pub tied : IsTied setup h runs
    pub given : LosesFront old.still new.still (links_of (starts_of runs))
    pub returned : Gains old.returned new.returned (backs_of runs)
    pub count : ((new.count ≡ record { port = port; sessions = sessions; given = length runs; back = length runs }) × MatchBool faulted (length runs < sessions) (length runs ≡ sessions))
        ⊎ ((new.count ≡ old.count) × (length runs ≡ 0) × (faulted ≡ true))
    pub cause : faulted ≡ true → Rose old.faults new.faults
    pub works : List Worked
    pub worked : All IsRested works
    pub few : length works ≤ workers
    pub channels : staff_of works ≡ 0 → HaveNoChannel (starts_of runs)
