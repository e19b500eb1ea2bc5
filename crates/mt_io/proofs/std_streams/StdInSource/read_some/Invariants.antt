use Rattle.std.proofs.Common.{◌≡◌}
use Rattle.mt_io.proofs.std_streams.StdInSource.read_some.Given as goal

abbrev pub invariant-loop : goal.invariant-loop
invariant-loop l = l.self.faults ≡ l.fn.self.faults
