-- A span of seconds, from a first to a last one, and an edge that lies inside it.
use Rattle.std.specs.Prelude.{ℕ, Bool, ◌&&◌, ◌||◌, nat_lt, nat_le}

-- a span begins before a second and goes on at it
abbrev pub crosses : ℕ → ℕ → ℕ → Bool
crosses first last edge = nat_lt first edge && nat_le edge last

-- a span crosses one of two seconds
abbrev pub crosses_one : ℕ → ℕ → ℕ → ℕ → Bool
crosses_one from to first last = crosses first last from || crosses first last to
