use Rattle.std.proofs.Common.{◌≤◌}
use Rattle.mt_ws.specs.Pulling.{Beats}
use Rattle.mt_ws.proofs.pull.pull.Given as goal

abbrev pub invariant-loop : goal.invariant-loop
invariant-loop g l = Beats g.S.Read.remaining g.S.Write.contents l.counter l.fn.socket l.socket × (l.counter ≤ 4097)
