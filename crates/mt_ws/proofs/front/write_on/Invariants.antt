use Rattle.std.specs.Io.KnownBytes.{Keeps}
use Rattle.mt_ws.proofs.front.write_on.Given as goal

-- an interrupted write takes nothing
abbrev pub invariant-loop : goal.invariant-loop
invariant-loop g l = Keeps (g.S.Write.contents l.fn.stream) (g.S.Write.contents l.stream)
