use Rattle.std.proofs.Common.{◌≡◌, length}
use Rattle.std.specs.Io.KnownBytes.{Keeps}
use Rattle.mt_ws.proofs.front.read_on.Given as goal

-- an interrupted read takes nothing
abbrev pub invariant-loop : goal.invariant-loop
invariant-loop g l = (length l.buf ≡ length l.fn.buf) × Keeps (g.S.Read.remaining l.fn.stream) (g.S.Read.remaining l.stream)
