use Rattle.std.proofs.Common.{◌≤◌, length, arith}
use Rattle.mt_io.proofs.Breaks.{has_break}
use Rattle.mt_io.proofs.ahead.Ahead.has_line.Goals as goal

pub returns : goal.returns
returns c =
    let room : c.self.inside.end ≤ length c.self.inside.chunk.items = omega (arith, c.self.invariant.1, c.self.inside.chunk.ok.0) in
    rw (← c.self.view_is) (has_break c.self.inside.chunk.items c.self.inside.at c.self.inside.whole c.self.inside.end c.self.invariant.0 room c.self.invariant.3)
