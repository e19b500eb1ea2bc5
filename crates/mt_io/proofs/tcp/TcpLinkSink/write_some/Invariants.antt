use Rattle.std.proofs.Common.{◌≡◌}
use Rattle.mt_io.proofs.tcp.TcpLinkSink.write_some.Given as goal

abbrev pub invariant-loop : goal.invariant-loop
invariant-loop l = (l.self.reads ≡ l.fn.self.reads) × (l.self.writes ≡ l.fn.self.writes)
