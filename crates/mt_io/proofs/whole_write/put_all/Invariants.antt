use Rattle.std.proofs.Common.{◌≡◌, ◌≤◌, List, ℕ, ◌++◌, length}
use Rattle.std.specs.Io.KnownBytes.{Appends}
use Rattle.mt_io.proofs.whole_write.put_all.Given as goal

abbrev pub invariant-loop-rest : goal.invariant-loop-rest
invariant-loop-rest g l = record {
  written : (front : List ℕ) × (l.bytes ≡ front ++ l.rest) × Appends (g.K.Sink.held l.fn.sink) (g.K.Sink.held l.sink) front;
  later : g.K.Sink.faults l.fn.sink ≤ g.K.Sink.faults l.sink;
  kept : g.K.Sink.writes_to l.fn.sink l.sink;
}

abbrev pub decreases-loop-rest : goal.decreases-loop-rest
decreases-loop-rest g l = length l.rest
