-- A large input, made from a number: 64 fixes and one type of aircraft, then flights between two of the fixes.
use Rattle.std.specs.Prelude.{◌≡◌, ℕ, ℤ, pos, ◌*ℤ◌, ◌-ℤ◌, zero, suc, ◌+◌, ◌*◌, ◌/◌, ◌%◌, Bool, true, nat_le, if◌then◌else◌, List, [], ◌∷◌, ◌++◌, All, codes, ⊤}
use Rattle.mt_base.specs.declared.band.Band.{Band}
use Rattle.mt_base.specs.declared.command.Command.{Command}
use Rattle.mt_base.specs.declared.command.Command.TheVariants.{Plan, Tick}
use Rattle.mt_base.specs.declared.route.RouteNo.{RouteNo}
use Rattle.mt_base.specs.Tables.{length_checks}
use Rattle.mt_read.specs.declared.request.Request.{Request}
use Rattle.mt_read.specs.declared.request.Request.TheVariants.{Begin, Change, Fix, TypeLine}
use Rattle.mt_load.specs.Draws.{drawn, state_after}

-- f of 0, 1, 2 and so on, n values
unfoldable pub each_below : {A : Type 0} → (ℕ → A) → ℕ → List A
each_below f zero = []
each_below f (suc n) = each_below f n ++ f n ∷ []

-- ---- names

-- the digit of a number below 10
abbrev pub digit : ℕ → ℕ
digit d = 48 + d

-- a fix name: `F`, column and place. The fixes stand in 8 columns, from west to east, of 8 each, from south to north, and are counted from 0, column
-- by column.
abbrev pub fix_name : ℕ → List ℕ
fix_name k = 70 ∷ digit (k / 8) ∷ digit (k % 8) ∷ []

-- a flight's callsign: `L` and four digits
abbrev pub callsign : ℕ → List ℕ
callsign n = 76 ∷ digit (n / 1000) ∷ digit (n / 100 % 10) ∷ digit (n / 10 % 10) ∷ digit (n % 10) ∷ []

-- the type of all flights
abbrev pub kind_name : List ℕ
kind_name = codes "JA1"

-- ---- what stands before the first flight

-- `coordinate`, `fix`: fixes 32 NM apart, the first 112 NM out. In units of 1/3600 NM.
abbrev pub coordinate : ℕ → ℤ
coordinate i = pos 115200 *ℤ pos i -ℤ pos 403200

abbrev pub fix : ℕ → Request
fix k = Fix (fix_name k) (coordinate (k / 8)) (coordinate (k % 8))

-- two bands, up to flight levels 245 and 410. 400 and 480 knots, with 2,000 and 2,100 feet a minute up and down.
abbrev pub bands : List Band
bands =
    record { top = 245; speed = pos 400; climb = pos 2000; descent = pos 2000 } ∷
    record { top = 410; speed = pos 480; climb = pos 2100; descent = pos 2100 } ∷ []

-- ---- flights

-- a number from one fewer, passing one over
abbrev pub other_than : ℕ → ℕ → ℕ
other_than a b = if nat_le a b then b + 1 else b

-- flight n's plan, by four draws. From one fix to another, at a level from 300 to 390, from a second below 1,200 on, approved for RVSM.
abbrev pub plan_from : ℕ → ℕ → Command
plan_from n state =
    let first = drawn 64 (state_after 1 state) in
    let second = other_than first (drawn 63 (state_after 2 state)) in
    let level = 300 + 10 * drawn 10 (state_after 3 state) in
    Plan (callsign n) kind_name (fix_name first ∷ fix_name second ∷ []) (drawn 1200 (state_after 4 state)) level level true

-- flight n's plan, drawn after those before it. The number is the first state.
abbrev pub plan_of : ℕ → ℕ → Request
plan_of number n = Change (plan_from n (state_after (4 * n) number))

-- ---- the whole

-- the requests: fixes, type, begin, plans, one tick. The begin has the usual rules, and the tick moves the moment to second 60.
abbrev pub inputs : ℕ → ℕ → List Request
inputs flights number =
    each_below fix 64 ++ TypeLine kind_name bands ∷ [] ++ Begin ∷ [] ++ each_below (plan_of number) flights ++ Change (Tick 60) ∷ []

-- a plan's route has 2 to 64 names, neighbours differ
abbrev pub HasRightRoute : Request → Type 0
HasRightRoute (Change (Plan call kind route at from level rvsm)) = All (λ (c : RouteNo × Bool). c.1 ≡ true) (length_checks route)
HasRightRoute request = ⊤
