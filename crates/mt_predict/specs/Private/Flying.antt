-- No public contract names these: they are of private steps and of proofs.
use Rattle.std.specs.Prelude.{◌≡◌, ℕ, suc, pos, ◌+ℤ◌, ◌*ℤ◌, ◌-◌, ◌<◌, List, length, slice_get, IfSome}
use Rattle.mt_base.specs.declared.place.Leg.{Leg}
use Rattle.mt_base.specs.declared.place.Place.{Place}
use Rattle.mt_base.specs.declared.row.Row.{Row}
use Rattle.mt_base.specs.Bounds.{IsHeight, IsWithin}
use Rattle.mt_base.specs.Predictor.{Manner, climb_from, end_of, row_on}
use Rattle.mt_track.specs.Rows.{row_after}

-- the place that a row reaches in so many seconds of its gains
abbrev pub place_at : Row → ℕ → Place
place_at a seconds = record {
  x = a.x +ℤ a.vx *ℤ pos seconds;
  y = a.y +ℤ a.vy *ℤ pos seconds;
  z = a.z +ℤ a.vz *ℤ pos seconds;
  r = a.r +ℤ a.gr *ℤ pos seconds;
  w = a.w +ℤ a.gw *ℤ pos seconds;
}

-- a row that climbs as its manner says, its height within bounds and its margins within the rules'
pub record IsFlownRow (m : Manner) (row : Row) : Type 0 where
  pub height : IsHeight row.z
  pub climb : row.vz ≡ climb_from m row.z
  pub r : IsWithin (pos 0) m.rules.rmax row.r
  pub w : IsWithin (pos 0) m.rules.wmax row.w

-- with so many seconds of a leg left, each row of the next n seconds goes on from the first with the same gains
abbrev pub IsSteady : Manner → Leg → ℕ → Row → ℕ → Type 0
IsSteady m leg left row n = (k : ℕ) → 0 < k → k < n → row_on m leg (left - suc k) (place_at row k) ≡ row_after row k

-- the last of some rows, if there is one, ends at a place
abbrev pub EndAt : List Row → Place → Type 0
EndAt rows a = IfSome (slice_get rows (length rows - 1)) (λ last. end_of last ≡ a)
