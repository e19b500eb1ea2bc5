-- Replies whose length is bounded by their kind, and entries whose length is bounded by their route.
use Rattle.std.specs.Prelude.{◌≡◌, ℕ, ℤ, pos, negsuc, ◌<◌, ◌≤◌, ◌^◌, true, List, length, All, IfSome, ⊤}
use Rattle.mt_base.specs.declared.clearance.Clearance.{Clearance}
use Rattle.mt_base.specs.declared.clearance.Clearance.TheVariants.{Level, Direct}
use Rattle.mt_base.specs.declared.command.Command.{Command}
use Rattle.mt_base.specs.declared.command.Command.TheVariants.{Plan}
use Rattle.mt_base.specs.declared.command.Refusal.{Refusal}
use Rattle.mt_base.specs.declared.command.Refusal.TheVariants.{UnknownCall, UnknownType, UnknownFix, TentativeHeld, Stale}
use Rattle.mt_base.specs.declared.flight.FlightView.{FlightView}
use Rattle.mt_base.specs.declared.flight.Tent.{Tent}
use Rattle.mt_base.specs.declared.hit.Hit.{Hit}
use Rattle.mt_base.specs.declared.row.Row.{Row}
use Rattle.mt_base.specs.Name.{is_name}
use Rattle.mt_write.specs.declared.reply.AdviceItem.{AdviceItem}
use Rattle.mt_write.specs.declared.reply.Reply.{Reply}
use Rattle.mt_write.specs.declared.reply.Reply.TheVariants as reply

-- a hit of a callsign, seconds of 32 bits
pub record IsShortHit (hit : Hit) : Type 0 where
  pub first : hit.first < 2 ^ 32
  pub with_is : is_name 1 7 hit.with ≡ true
  pub last : hit.last < 2 ^ 32

-- a refusal of short names and bounded numbers. Its name has at most 7 letters, its hit is short, and its owner has a number of 32 bits.
abbrev pub IsShortRefusal : Refusal → Type 0
IsShortRefusal (UnknownCall call) = length call ≤ 7
IsShortRefusal (UnknownType name) = length name ≤ 7
IsShortRefusal (UnknownFix name) = length name ≤ 7
IsShortRefusal (TentativeHeld owner) = owner < 2 ^ 32
IsShortRefusal (Stale first) = IsShortHit first
IsShortRefusal refusal = ⊤

-- a whole number of 64 bits
abbrev pub IsShortNumber : ℤ → Type 0
IsShortNumber (pos n) = n < 2 ^ 64
IsShortNumber (negsuc n) = n < 2 ^ 63

-- `IsShortRow`, `IsShortTent`, `IsShortFlight`: a row, tentative clearance, flight of 64-bit numbers
pub record IsShortRow (row : Row) : Type 0 where
  pub x : IsShortNumber row.x
  pub y : IsShortNumber row.y
  pub z : IsShortNumber row.z
  pub r : IsShortNumber row.r
  pub w : IsShortNumber row.w
  pub vx : IsShortNumber row.vx
  pub vy : IsShortNumber row.vy
  pub vz : IsShortNumber row.vz
  pub gr : IsShortNumber row.gr
  pub gw : IsShortNumber row.gw
  pub leg : row.leg < 2 ^ 64

pub record IsShortTent (tent : Tent) : Type 0 where
  pub level : tent.level < 2 ^ 64
  pub owner : tent.owner < 2 ^ 64
  pub start : tent.start < 2 ^ 64

pub record IsShortFlight (view : FlightView) : Type 0 where
  pub call : length view.call ≤ 7
  pub end : view.end < 2 ^ 64
  pub level : IfSome view.level (λ level. level < 2 ^ 64)
  pub row : IfSome view.row IsShortRow
  pub start : view.start < 2 ^ 64
  pub tentative : IfSome view.tentative IsShortTent
  pub version : view.version < 2 ^ 64

-- a probe of at most 1,023 short hits. Its second has 32 bits, its numbers 64.
pub record IsShortProbe (conflicts : List Hit) (eff probe version : ℕ) : Type 0 where
  pub few : length conflicts ≤ 1023
  pub each : All IsShortHit conflicts
  pub second : eff < 2 ^ 32
  pub number : probe < 2 ^ 64
  pub at_version : version < 2 ^ 64

-- at most 1,024 callsigns
pub record AreShortCalls (calls : List (List ℕ)) (version : ℕ) : Type 0 where
  pub few : length calls ≤ 1024
  pub each : All (λ call. is_name 1 7 call ≡ true) calls
  pub at_version : version < 2 ^ 64

-- `IsShortClearance`, `IsShortAdvised`: a clearance to a level or fix, and its probe's number. The level has 32 bits, the number 64.
abbrev pub IsShortClearance : Clearance → Type 0
IsShortClearance (Level level) = level < 2 ^ 32
IsShortClearance (Direct fix) = is_name 1 7 fix ≡ true

pub record IsShortAdvised (advised : AdviceItem) : Type 0 where
  pub clearance : IsShortClearance advised.clearance
  pub number : advised.probe < 2 ^ 64

-- at most 16 advised clearances. The eight levels and the eight fixes that are tried.
pub record IsShortAdvice (advice : List AdviceItem) (call : List ℕ) (eff version : ℕ) : Type 0 where
  pub few : length advice ≤ 16
  pub each : All IsShortAdvised advice
  pub call_is : is_name 1 7 call ≡ true
  pub second : eff < 2 ^ 32
  pub at_version : version < 2 ^ 64

-- a reply without a list of conflicts or entries, of bounded size. Its numbers are of 64 bits, its names of at most 7 letters, the name of a
-- field has at most 10,000 bytes, a probe has at most 1,023 hits, and due flights are at most 1,024.
--
-- The longest is the refusal of a field: its name, whose bytes are written with at most 6 each, and 26 bytes more make 60,026. A hit has at
-- most 56 bytes (`{"first":4294967295,"last":4294967295,"with":"AAAAAAA"},`), so a probe has 57,381. A callsign has at most 10 (`"AAAAAAA",`),
-- so 1,024 of them in `{"calls":[],"version":18446744073709551615}` with its 0x0A make 10,283. Advice has 846, a verdict 91.
abbrev pub IsShort : Reply → Type 0
IsShort (reply.Taken version) = version < 2 ^ 64
IsShort (reply.Entered entered) = entered.version < 2 ^ 64
IsShort (reply.List conflicts version) = ⊥
IsShort (reply.Probe conflicts eff probe version) = IsShortProbe conflicts eff probe version
IsShort (reply.Advice advice call eff version) = IsShortAdvice advice call eff version
IsShort (reply.Flight view) = IsShortFlight view
IsShort (reply.Due calls version) = AreShortCalls calls version
IsShort (reply.Settled left version) = AreShortCalls left version
IsShort (reply.History entries version) = ⊥
IsShort (reply.Areas areas version) = ⊥
IsShort (reply.Form name) = length name ≤ 10000
IsShort (reply.Range name) = length name ≤ 10000
IsShort (reply.TakenFix name) = length name ≤ 7
IsShort (reply.TakenType name) = length name ≤ 7
IsShort (reply.Refused refusal version) = IsShortRefusal refusal × (version < 2 ^ 64)
IsShort (reply.Illegal version refusal) = version < 2 ^ 64
IsShort (reply.Late version) = version < 2 ^ 64
IsShort reply = ⊤

-- a route, where a command has one, has at most 64 names
abbrev pub HasShortRoute : Command → Type 0
HasShortRoute (Plan call kind route at from level rvsm) = length route ≤ 64
HasShortRoute command = ⊤
