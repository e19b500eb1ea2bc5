use Rattle.std.proofs.Common.{◌≡◌, ◌-◌, ◌≤◌, length}
use Rattle.mt_ws.proofs.Heads.{HasReadOpen}
use Rattle.mt_ws.proofs.opening.read_head.Given as goal

-- what was read leaves open what the stream is
abbrev pub invariant-loop-count : goal.invariant-loop-count
invariant-loop-count g l =
    HasReadOpen (g.S.Read.remaining l.fn.stream) (g.S.Read.remaining l.stream) l.head l.count × (l.count ≤ 8192) × (length l.head ≡ 8192)

abbrev pub decreases-loop-count : goal.decreases-loop-count
decreases-loop-count g l = 8192 - l.count
