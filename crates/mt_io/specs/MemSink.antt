-- A sink in memory of a fixed room.
use Rattle.std.specs.Prelude.{◌≡◌, ◌<◌, ◌≤◌, ℕ, vec_len}
use Rattle.mt_io.specs.Calls.{FaultPlan, GoOn, AreUnlisted}
use Rattle.mt_io.specs.declared.mem_sink.MemSink.{MemSink}

-- how many bytes a sink can hold
abbrev pub room_of : MemSink → ℕ
room_of sink = sink.room

-- the calls on a sink
abbrev pub calls_of : MemSink → FaultPlan
calls_of sink = sink.calls

-- the most bytes that a call takes
abbrev pub most_of : MemSink → ℕ
most_of sink = sink.most

-- a sink holds as many bytes as it can
abbrev pub IsFull : MemSink → Type 0
IsFull sink = vec_len sink.bytes ≡ sink.room

-- writes keep its settings and what it holds. While there is room, they count no fault where none of them is listed.
pub record HasWritten (old new : MemSink) : Type 0 where
  pub same_room : new.room ≡ old.room
  pub same_most : new.most ≡ old.most
  pub grows : vec_len old.bytes ≤ vec_len new.bytes
  pub calls : GoOn old.calls new.calls
  pub quiet : vec_len new.bytes < new.room → AreUnlisted old.calls new.calls → new.calls.failed ≡ old.calls.failed
