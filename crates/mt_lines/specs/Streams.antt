-- What a call leaves of a stream that it reads from or writes to.
use Rattle.std.specs.Prelude.{ℕ, ◌≤◌}
use Rattle.mt_io.specs.Causes.{Rose}

-- a stream's count of faults never falls, and a fault is told only where it rose. Or where it stands at its last value.
pub record TellsFault (told : Type 0) (before now : ℕ) : Type 0 where
  pub cause : told → Rose before now
  pub later : before ≤ now

-- the same, and of the stream only that changed which reads, or writes, may change
pub record LeavesStream (told : Type 0) (before now : ℕ) (same : Type 0) : Type 0 where
  pub fault : TellsFault told before now
  pub kept : same
