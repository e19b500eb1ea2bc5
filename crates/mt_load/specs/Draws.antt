-- Draws: numbers that are fixed by a first state and look as if they were drawn at random.
use Rattle.std.specs.Prelude.{ℕ, zero, suc, ◌+◌, ◌*◌, ◌/◌, ◌%◌, ◌^◌}

-- a linear congruential generator's next state, 64 bits
unfoldable pub next_state : ℕ → ℕ
next_state state = (state * 6364136223846793005 + 1442695040888963407) % 2 ^ 64

-- a number below n, from the 31 high bits
unfoldable pub drawn : ℕ → ℕ → ℕ
drawn n state = state / 2 ^ 33 % n

-- the state after so many draws
unfoldable pub state_after : ℕ → ℕ → ℕ
state_after zero state = state
state_after (suc draws) state = next_state (state_after draws state)
