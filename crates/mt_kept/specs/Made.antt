-- When a pair of places is open.
use Rattle.std.specs.Prelude.{ℕ, Bool, ◌&&◌, nat_lt, nat_le}
use Rattle.mt_base.specs.Picture.{window_end}
use Rattle.mt_edges.specs.declared.edge.Edge.{Edge}

-- a pair's conflict reaches into the look-ahead
abbrev pub is_open_pair : ℕ → Edge → Bool
is_open_pair now e = nat_lt e.first (window_end now) && nat_le now e.last
