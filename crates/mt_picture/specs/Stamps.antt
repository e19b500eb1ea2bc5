-- Which entry made a trajectory, filed a flight, or names it last.
use Rattle.std.specs.Prelude.{◌≡◌, ℕ, ◌+◌, ◌<◌, ◌≤◌, List, length, take, slice_get, get_or, Contains, Option, Some, None, is_some, true, ⊤}
use Rattle.std.specs.Arc.{arc_value}
use Rattle.mt_base.specs.declared.command.Command.{Command}
use Rattle.mt_base.specs.declared.command.Command.TheVariants.{External, Plan}
use Rattle.mt_base.specs.declared.command.Entry.{Entry}
use Rattle.mt_base.specs.declared.conflict.Kind.{Kind}
use Rattle.mt_base.specs.Decision.{call_of}
use Rattle.mt_base.specs.Effect.{state_of}
use Rattle.mt_base.specs.Picture.{NamedTrajectory, flight_of, trajectories}
use Rattle.mt_base.specs.Tables.{Setup}
use Rattle.mt_probe.specs.declared.flight.Flight.{Flight}
use Rattle.mt_probe.specs.declared.flight.Made.{Made}
use Rattle.mt_probe.specs.Prepared.{MakesStrand, kind_made}
use Rattle.mt_probe.specs.Shot.{made_of}
use Rattle.mt_picture.specs.Story.{IsNamedAfter}

-- a command makes a flight's trajectory of a kind
pub record Makes (command : Command) (call : List ℕ) (kind : Kind) : Type 0 where
  pub names : call_of command ≡ Some call
  pub makes : MakesStrand command
  pub kind_is : kind_made command ≡ kind

-- a trajectory made at version `stamp` stands since
pub record IsMadeAt (setup : Setup) (h : List Entry) (t : NamedTrajectory) (stamp : ℕ) : Type 0 where
  pub entry : Entry
  pub made : (n : ℕ) → n + 1 ≡ stamp → (slice_get h n ≡ Some entry) × Makes entry.command t.call t.kind
  pub some : 0 < stamp
  pub within : stamp ≤ length h
  pub stood : (w : ℕ) → stamp ≤ w → w ≤ length h → Contains (trajectories setup (state_of setup (take w h))) t

-- each trajectory that is kept of a flight was made at its stamp
abbrev pub AreStamped : Setup → List Entry → List (Option Flight) → Type 0
AreStamped setup h slots = (i : ℕ) (f : Flight) (kind : Kind) (made : Made) → get_or slots i None ≡ Some f → made_of f kind ≡ Some made
    → IsMadeAt setup h (record { call = f.card.call; kind = kind; path = arc_value made.strand }) made.stamp

-- a command files a flight
abbrev pub IsFiling : Command → Type 0
IsFiling (Plan call kind route at from level rvsm) = ⊤
IsFiling (External call straight) = ⊤
IsFiling command = ⊥

-- the flight of a callsign was filed at version `filed`, and is there since
pub record WasFiledAt (setup : Setup) (h : List Entry) (call : List ℕ) (filed : ℕ) : Type 0 where
  pub entry : Entry
  pub files : (n : ℕ) → n + 1 ≡ filed → (slice_get h n ≡ Some entry) × IsFiling entry.command × (call_of entry.command ≡ Some call)
  pub some : 0 < filed
  pub within : filed ≤ length h
  pub there : (w : ℕ) → filed ≤ w → w ≤ length h → is_some (flight_of (state_of setup (take w h)).records call) ≡ true

-- each flight was filed at the version that it has for that
abbrev pub HaveFilings : Setup → List Entry → List (Option Flight) → Type 0
HaveFilings setup h slots = (i : ℕ) (f : Flight) → get_or slots i None ≡ Some f → WasFiledAt setup h f.card.call f.filed

-- the last entry that names a callsign is that of version `named`
pub record WasNamedLastAt (h : List Entry) (call : List ℕ) (named : ℕ) : Type 0 where
  pub entry : Entry
  pub names : (n : ℕ) → n + 1 ≡ named → (slice_get h n ≡ Some entry) × (call_of entry.command ≡ Some call)
  pub some : 0 < named
  pub within : named ≤ length h
  pub last : ¬ IsNamedAfter h named call

-- each flight was named last at the version that it has for that
abbrev pub AreNamedLast : List Entry → List (Option Flight) → Type 0
AreNamedLast h slots = (i : ℕ) (f : Flight) → get_or slots i None ≡ Some f → WasNamedLastAt h f.card.call f.named
