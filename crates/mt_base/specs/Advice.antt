-- Which clearances are advised to a flight.
use Rattle.std.specs.Prelude.{◌≡◌, ℕ, ◌+◌, ◌-◌, suc, List, [], ◌∷◌, ◌++◌, All, map, filter, take, drop, nat_le, not, Bool, true, false, Option, None, is_some, unwrap_or, option_and_then, Result, Ok, Err, if◌then◌else◌}
use Rattle.std.specs.List.{flat_map}
use Rattle.std.specs.Option.{option_map_or}
use Rattle.std.specs.Str.{bytes_eq}
use Rattle.mt_base.specs.declared.clearance.Clearance.{Clearance}
use Rattle.mt_base.specs.declared.clearance.Clearance.TheVariants.{Level, Direct}
use Rattle.mt_base.specs.declared.command.Refusal.{Refusal}
use Rattle.mt_base.specs.declared.command.Refusal.TheVariants.{UnknownCall, Fixed, Ended}
use Rattle.mt_base.specs.declared.flight.Base.{Base}
use Rattle.mt_base.specs.declared.flight.Course.{Course}
use Rattle.mt_base.specs.declared.flight.Path.TheVariants.{Planned}
use Rattle.mt_base.specs.declared.flight.Record.{Record}
use Rattle.mt_base.specs.Checks.{judged}
use Rattle.mt_base.specs.Cleared.{base_from}
use Rattle.mt_base.specs.Picture.{State, flight_of, trajectory_of}
use Rattle.mt_base.specs.Tables.{Setup, Tables, bands_of, ceiling_of}
use Rattle.mt_base.specs.WhatIf.{IsConflicting, IsWhatIf, course_in}

-- a level, where it isn't above the ceiling
abbrev pub level_up_to : ℕ → ℕ → List Clearance
level_up_to ceiling level = if nat_le level ceiling then Level level ∷ [] else []

-- the levels one step above and below, from 0 to the ceiling
abbrev pub levels_beside : ℕ → ℕ → ℕ → List Clearance
levels_beside ceiling level step =
    level_up_to ceiling (level + step) ++ (if nat_le step level then level_up_to ceiling (level - step) else [])

-- the levels 10, 20, 30 and 40 above and below
abbrev pub levels_near : ℕ → ℕ → List Clearance
levels_near ceiling level = flat_map (levels_beside ceiling level) (10 ∷ 20 ∷ 30 ∷ 40 ∷ [])

-- names, each where it first stands
abbrev pub each_once : List (List ℕ) → List (List ℕ)
each_once [] = []
each_once (n ∷ ns) = n ∷ filter (λ m. not (bytes_eq n m)) (each_once ns)

-- the names at the next eight places of a route, each once
abbrev pub names_ahead : List (List ℕ) → ℕ → List (List ℕ)
names_ahead route place = each_once (take 8 (drop (suc place) route))

-- the clearances that are tried for a flight. The levels 10, 20, 30 and 40 above and below its own, from 0 up to the ceiling; then direct to each of
-- the next eight places of its route after the one that it flies to, by name, each name once.
abbrev pub candidates : Tables → Course → Base → List Clearance
candidates tables course base =
    levels_near (ceiling_of (unwrap_or (bands_of tables course.kind) [])) course.level ++ map Direct (names_ahead course.route base.next)

-- the base from which a clearance would hold now
abbrev pub base_now : Setup → ℕ → Course → Option Base
base_now setup now course = base_from course.base (trajectory_of setup (Planned course)) now

-- what is checked before advice: the flight is known, planned, not ended
abbrev pub advice_checks : Setup → ℕ → Option Record → List ℕ → List (Refusal × Bool)
advice_checks setup now flight call =
    (UnknownCall call, is_some flight) ∷
    (Fixed, is_some (course_in flight)) ∷
    (Ended, is_some (option_and_then (base_now setup now) (course_in flight))) ∷ []

-- `candidates_for`, `candidates_in`: the candidates for a course, and for a flight of a state
abbrev pub candidates_for : Setup → ℕ → Course → List Clearance
candidates_for setup now course = option_map_or (candidates setup.tables course) (base_now setup now course) []

abbrev pub candidates_in : Setup → State → List ℕ → List Clearance
candidates_in setup s call = option_map_or (candidates_for setup s.now) (course_in (flight_of s.records call)) []

-- a clearance that was tried, and whether it was found free
pub record Tried : Type 0 where
  pub clearance : Clearance
  pub free : Bool

-- a free clearance hits nothing, any other has some hit
abbrev pub WasFound : Setup → State → List ℕ → Clearance → Bool → Type 0
WasFound setup s call clearance true = IsWhatIf setup s call clearance None (Ok [])
WasFound setup s call clearance false = IsConflicting setup s call clearance None

-- the clearances found free, in order
abbrev pub free_of : List Tried → List Clearance
free_of tried = map (λ t. t.clearance) (filter (λ t. t.free) tried)

-- each candidate was tried; the free ones are advised, in order
pub record AreAdvised (setup : Setup) (s : State) (call : List ℕ) (advised : List Clearance) : Type 0 where
  pub tried : List Tried
  pub all : map (λ t. t.clearance) tried ≡ candidates_in setup s call
  pub each : All (λ t. WasFound setup s call t.clearance t.free) tried
  pub free : advised ≡ free_of tried

-- the advice for a flight: its first refusal, or the candidates without hits
abbrev pub IsAdvice : Setup → State → List ℕ → Result (List Clearance) Refusal → Type 0
IsAdvice setup s call (Err refusal) = judged (advice_checks setup s.now (flight_of s.records call) call) (tt {0}) ≡ Err refusal
IsAdvice setup s call (Ok advised) =
    (judged (advice_checks setup s.now (flight_of s.records call) call) (tt {0}) ≡ Ok (tt {0})) × AreAdvised setup s call advised
