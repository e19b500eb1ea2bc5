-- The rows of a planned trajectory, second by second.
use Rattle.std.specs.Prelude.{ℕ, zero, suc, ◌*◌, ℤ, pos, neg_ℤ, ◌+ℤ◌, ◌-ℤ◌, ◌*ℤ◌, int_le, unsigned_abs, nat_le, nat_lt, Bool, List, [], ◌∷◌, ◌++◌, take, drop, map, unwrap_or, if◌then◌else◌}
use Rattle.std.specs.Int.{int_min, int_max, int_div_euclid, int_rem_euclid}
use Rattle.mt_base.specs.declared.band.Band.{Band}
use Rattle.mt_base.specs.declared.flight.Base.{Base}
use Rattle.mt_base.specs.declared.place.Leg.{Leg}
use Rattle.mt_base.specs.declared.place.Place.{Place}
use Rattle.mt_base.specs.declared.place.Point.{Point}
use Rattle.mt_base.specs.declared.row.Row.{Row}
use Rattle.mt_base.specs.declared.rules.Rules.{Rules}
use Rattle.mt_base.specs.Tables.{Setup, Tables, bands_of, fix_of}
use Rattle.mt_base.specs.Trajectory.{Trajectory}

-- how a flight flies: rules, its type's bands, cleared level
pub record Manner : Type 0 where
  pub rules : Rules
  pub bands : List Band
  pub level : ℕ

-- ---- the leg law

-- the band at a height: the first whose top is not below it, else the last
abbrev pub band_at : List Band → ℤ → Band
band_at [] z = record { top = 0; speed = pos 0; climb = pos 0; descent = pos 0 }
band_at (b ∷ []) z = b
band_at (b ∷ c ∷ bs) z = if int_le z (pos (6000 * b.top)) then b else band_at (c ∷ bs) z

-- the least number that passes a test, else the bound
abbrev pub least_below : ℕ → (ℕ → Bool) → ℕ
least_below zero test = zero
least_below (suc n) test = if test zero then zero else suc (least_below n (λ t. test (suc t)))

-- the square of a distance
abbrev pub square_of : ℤ → ℤ → ℕ
square_of dx dy = unsigned_abs (dx *ℤ dx +ℤ dy *ℤ dy)

-- the seconds of a leg at speed g, rounded up. The least T with dx*dx + dy*dy <= T*T*g*g, which is never above dx*dx + dy*dy itself.
unfoldable pub seconds_of : ℤ → ℤ → ℕ → ℕ
seconds_of dx dy g = least_below (square_of dx dy) (λ t. nat_le (square_of dx dy) (t * t * g * g))

-- the leg to a fix, at the speed for this height
unfoldable pub leg_to : List Band → ℕ → Point → Place → Leg
leg_to bands number fix a = record {
  number = number;
  dx = fix.x -ℤ a.x;
  dy = fix.y -ℤ a.y;
  seconds = seconds_of (fix.x -ℤ a.x) (fix.y -ℤ a.y) (unsigned_abs (band_at bands a.z).speed);
}

-- the share of a leg flown in one second; its last seconds take the remainder. A distance of q*T + r, with 0 <= r < T, is flown in T seconds by q in
-- each, and one more in the last r; n seconds of the leg come after this one.
unfoldable pub gain_with : ℤ → ℕ → ℕ → ℤ
gain_with total seconds n =
    if nat_lt n (unsigned_abs (int_rem_euclid total (pos seconds))) then int_div_euclid total (pos seconds) +ℤ pos 1
    else int_div_euclid total (pos seconds)

-- ---- the vertical law and the margins

-- the climb or descent of one second, to the cleared height, within the band's rates. What is left to that height, at most the rate of climb and at
-- least minus the rate of descent of the band at that height.
unfoldable pub climb_from : Manner → ℤ → ℤ
climb_from m z = int_max (int_min (pos (6000 * m.level) -ℤ z) (band_at m.bands z).climb) (neg_ℤ (band_at m.bands z).descent)

-- `margin_at`, `margin_gain`: the vertical margin of a second, and its gain; level flight resets it
abbrev pub margin_at : Rules → ℤ → ℤ → ℤ
margin_at rules (pos zero) w = rules.w0
margin_at rules climb w = w

abbrev pub margin_gain : Rules → ℤ → ℤ → ℤ
margin_gain rules (pos zero) w = pos 0
margin_gain rules climb w = int_min rules.gv (rules.wmax -ℤ w)

-- ---- rows

-- the row with n more seconds of its leg ahead
unfoldable pub row_on : Manner → Leg → ℕ → Place → Row
row_on m leg n a = record {
  x = a.x;
  y = a.y;
  z = a.z;
  r = a.r;
  w = margin_at m.rules (climb_from m a.z) a.w;
  vx = gain_with leg.dx leg.seconds n;
  vy = gain_with leg.dy leg.seconds n;
  vz = climb_from m a.z;
  gr = int_min m.rules.gh (m.rules.rmax -ℤ a.r);
  gw = margin_gain m.rules (climb_from m a.z) a.w;
  leg = leg.number;
}

-- where a second ends
abbrev pub end_of : Row → Place
end_of a = record { x = a.x +ℤ a.vx; y = a.y +ℤ a.vy; z = a.z +ℤ a.vz; r = a.r +ℤ a.gr; w = a.w +ℤ a.gw }

-- the rows of the last n seconds of a leg
abbrev pub rows_on : Manner → Leg → ℕ → Place → List Row
rows_on m leg zero a = []
rows_on m leg (suc n) a = row_on m leg n a ∷ rows_on m leg n (end_of (row_on m leg n a))

-- where the last of some rows ends
abbrev pub end_after : Place → List Row → Place
end_after a [] = a
end_after a (r ∷ rs) = end_after (end_of r) rs

-- the rows of the whole leg to a fix. The fix is the number-th of the route.
abbrev pub rows_to : Manner → ℕ → Point → Place → List Row
rows_to m number fix a = rows_on m (leg_to m.bands number fix a) (leg_to m.bands number fix a).seconds a

-- the rows of the legs to each fix in turn. `number` is the first one's place in the route.
abbrev pub rows_along : Manner → ℕ → List Point → Place → List Row
rows_along m number [] a = []
rows_along m number (fix ∷ fixes) a = rows_to m number fix a ++ rows_along m (suc number) fixes (end_after a (rows_to m number fix a))

-- the predicted rows along the fixes ahead, cut off after 14,400
abbrev pub predicted : Manner → ℕ → List Point → Place → List Row
predicted m number fixes a = take 14400 (rows_along m number fixes a)

-- ---- trajectories

-- `points_of`, `base_place`: the positions of a route's fixes, and of a base
abbrev pub points_of : Tables → List (List ℕ) → List Point
points_of tables route = map (λ name. unwrap_or (fix_of tables name) (record { x = pos 0; y = pos 0 })) route

abbrev pub base_place : Base → Place
base_place b = record { x = b.x; y = b.y; z = b.z; r = b.r; w = b.w }

-- how a type flies to a level
abbrev pub manner_of : Setup → List ℕ → ℕ → Manner
manner_of setup kind level = record { rules = setup.rules; bands = unwrap_or (bands_of setup.tables kind) []; level = level }

-- the trajectory of a type along a route from a base. It is cleared to a level, and the aircraft has that approval.
abbrev pub flown : Setup → List ℕ → List (List ℕ) → Base → ℕ → Bool → Trajectory
flown setup kind route base level rvsm = record {
  start = base.at;
  rows = predicted (manner_of setup kind level) base.next (drop base.next (points_of setup.tables route)) (base_place base);
  rvsm = rvsm;
}
