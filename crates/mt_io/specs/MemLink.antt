-- A link in memory of a fixed room.
use Rattle.std.specs.Prelude.{◌≡◌, ℕ, ◌+◌, ◌-◌, ◌^◌, min, vec_len}
use Rattle.mt_io.specs.Calls.{FaultPlan}
use Rattle.mt_io.specs.MemSource as sources
use Rattle.mt_io.specs.MemSink as sinks
use Rattle.mt_io.specs.declared.mem_link.MemLink.{MemLink}

-- how many bytes a link can hold
abbrev pub room_of : MemLink → ℕ
room_of link = sinks.room_of link.sink

-- `reads_of`, `writes_of`: the reads of a link, and the writes
abbrev pub reads_of : MemLink → FaultPlan
reads_of link = sources.calls_of link.source

abbrev pub writes_of : MemLink → FaultPlan
writes_of link = sinks.calls_of link.sink

-- `most_read`, `most_written`: the most bytes that a read gives, a write takes
abbrev pub most_read : MemLink → ℕ
most_read link = sources.most_of link.source

abbrev pub most_written : MemLink → ℕ
most_written link = sinks.most_of link.sink

-- a link holds as many bytes as it can
abbrev pub IsFull : MemLink → Type 0
IsFull link = sinks.IsFull link.sink

-- a link was shut once more, and remembers how many bytes it held then. What it has left, what it holds and its calls stay. The count stays at
-- 2^64 - 1.
pub record HasShut (old new : MemLink) : Type 0 where
  pub source : new.source ≡ old.source
  pub sink : new.sink ≡ old.sink
  pub once_more : new.shuts ≡ min (old.shuts + 1) (2 ^ 64 - 1)
  pub held_then : new.held_at_shut ≡ vec_len old.sink.bytes
