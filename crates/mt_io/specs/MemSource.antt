-- A source in memory.
use Rattle.std.specs.Prelude.{◌≡◌, ℕ}
use Rattle.mt_io.specs.Calls.{FaultPlan, GoOn, AreUnlisted}
use Rattle.mt_io.specs.declared.mem_source.MemSource.{MemSource}

-- the calls on a source
abbrev pub calls_of : MemSource → FaultPlan
calls_of source = source.calls

-- the most bytes that a call gives
abbrev pub most_of : MemSource → ℕ
most_of source = source.most

-- reads keep its bytes and settings. They count no fault where none of them is listed.
pub record HasGiven (old new : MemSource) : Type 0 where
  pub same_bytes : new.bytes ≡ old.bytes
  pub same_most : new.most ≡ old.most
  pub calls : GoOn old.calls new.calls
  pub quiet : AreUnlisted old.calls new.calls → new.calls.failed ≡ old.calls.failed
