-- The answers to a seat's probe and to its request for advice.
use Rattle.std.specs.Prelude.{◌≡◌, ◌≤◌, ℕ, List, [], length, map, take, Option, Ok, Err, unwrap_or}
use Rattle.mt_base.specs.declared.clearance.Clearance.{Clearance}
use Rattle.mt_base.specs.declared.command.Command.{Command}
use Rattle.mt_base.specs.declared.command.Command.TheVariants.{Accept}
use Rattle.mt_base.specs.declared.hit.Hit.{Hit}
use Rattle.mt_base.specs.Advice.{IsAdvice}
use Rattle.mt_base.specs.Effect.{state_of}
use Rattle.mt_base.specs.Picture.{State}
use Rattle.mt_base.specs.Tables.{Setup}
use Rattle.mt_base.specs.WhatIf.{IsWhatIf}
use Rattle.mt_board.specs.declared.no.No.{No}
use Rattle.mt_board.specs.Changing.{IsDenied}
use Rattle.mt_board.specs.BoardSeat.{BoardSeat, HasSeen, state_seen}

-- a probe: flight, clearance, second, version and hits
pub record ToldProbe : Type 0 where
  pub call : List ℕ
  pub clearance : Clearance
  pub eff : ℕ
  pub version : ℕ
  pub hits : List Hit

-- the command that accepts a probe
abbrev pub acceptance : ToldProbe → Command
acceptance p = Accept p.call p.clearance p.eff p.version

-- the probe's hits are exact on the version that the seat then saw. By default the clearance was tried from that state's moment on.
pub record IsProbed (s t : BoardSeat) (call : List ℕ) (clearance : Clearance) (eff : Option ℕ) (probe : ToldProbe) : Type 0 where
  pub seen : HasSeen s t probe.version
  pub call_is : probe.call ≡ call
  pub clearance_is : probe.clearance ≡ clearance
  pub eff_is : probe.eff ≡ unwrap_or eff (state_seen t).now
  pub follows : IsWhatIf t.fixed (state_seen t) call clearance eff (Ok probe.hits)

-- the refusal of a probe, as the state says
abbrev pub IsNotProbed : BoardSeat → BoardSeat → List ℕ → Clearance → Option ℕ → No → Type 0
IsNotProbed s t call clearance eff denied = IsDenied s (λ refusal. IsWhatIf t.fixed (state_seen t) call clearance eff (Err refusal)) denied t

-- a state at an earlier version that the seat saw
pub record IsPast (s : BoardSeat) (fixed : Setup) (state : State) (version : ℕ) : Type 0 where
  pub same : fixed ≡ s.fixed
  pub past : version ≤ length s.seen
  pub state_is : state ≡ state_of s.fixed (take version s.seen)

-- an advised clearance as a probe without hits
abbrev pub free_probe : List ℕ → ℕ → ℕ → Clearance → ToldProbe
free_probe call eff version clearance = record { call = call; clearance = clearance; eff = eff; version = version; hits = [] }

-- these probes, at most sixteen, are the free clearances, in order. They are advised on the state of that version, each tried from its moment on and
-- without hits.
pub record IsAdvised (s t : BoardSeat) (call : List ℕ) (eff version : ℕ) (probes : List ToldProbe) : Type 0 where
  pub seen : HasSeen s t version
  pub eff_is : eff ≡ (state_seen t).now
  pub clearances : List Clearance
  pub advice : IsAdvice t.fixed (state_seen t) call (Ok clearances)
  pub probes_are : probes ≡ map (free_probe call eff version) clearances
  pub few : length probes ≤ 16

-- the refusal of advice, as the state says
abbrev pub IsNotAdvised : BoardSeat → BoardSeat → List ℕ → No → Type 0
IsNotAdvised s t call denied = IsDenied s (λ refusal. IsAdvice t.fixed (state_seen t) call (Err refusal)) denied t
