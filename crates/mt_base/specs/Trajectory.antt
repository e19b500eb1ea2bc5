use Rattle.std.specs.Prelude.{ℕ, zero, suc, ◌-◌, ◌+ℤ◌, Bool, List, [], ◌∷◌, Option, None, slice_get, nat_lt, if◌then◌else◌}
use Rattle.mt_base.specs.declared.row.Row.{Row}
use Rattle.mt_base.specs.declared.flight.Straight.{Straight}

-- a first second, a row for each second, RVSM approval
pub record Trajectory : Type 0 where
  pub start : ℕ
  pub rows : List Row
  pub rvsm : Bool

-- the second before which every trajectory ends
abbrev pub horizon : ℕ
horizon = 10014400

-- the row of second k, where the trajectory covers it
abbrev pub row_at : Trajectory → ℕ → Option Row
row_at t k = if nat_lt k t.start then None else slice_get t.rows (k - t.start)

-- the row one second later, with the same gains
abbrev pub next_row : Row → Row
next_row a = record a { x = a.x +ℤ a.vx; y = a.y +ℤ a.vy; z = a.z +ℤ a.vz; r = a.r +ℤ a.gr; w = a.w +ℤ a.gw }

-- so many seconds with the same gains
abbrev pub straight_rows : Row → ℕ → List Row
straight_rows a zero = []
straight_rows a (suc n) = a ∷ straight_rows (next_row a) n

-- the trajectory of a straight stretch
abbrev pub straight : Straight → Trajectory
straight s = record { start = s.from; rows = straight_rows s.first (s.to - s.from); rvsm = s.rvsm }
