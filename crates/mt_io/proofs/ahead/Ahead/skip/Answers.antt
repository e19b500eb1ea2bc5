use Rattle.std.proofs.Common.{◌≡◌, ◌≤◌, ◌+◌, ◌-◌, length, slice_range, sym, ap, arith, length-take}
use Rattle.mt_io.specs.Reading.{Store}
use Rattle.mt_io.proofs.Pieces.{drop-slice_range}
use Rattle.mt_io.proofs.ahead.Ahead.skip.Goals as goal

pub returns : goal.returns
returns c =
    let size : length (slice_range c.self.inside.chunk.items c.self.inside.at c.self.inside.end) ≤ c.self.inside.end - c.self.inside.at = simp length-take (omega arith) in
    let same : length (slice_range c.self.inside.chunk.items c.self.inside.at c.self.inside.end) ≡ length c.args.self.now.ahead = ap (λ (s : Store). length s.ahead) c.self.view_is in
    let le : c.self.inside.at + c.args.count ≤ c.self.inside.end = omega (arith, size, same, c.requires, c.self.invariant.0) in
    rw (← c.self.view_is) (ap (λ xs. record { ahead = xs; taken = c.self.inside.taken; ended = c.self.inside.ended })
    (sym (drop-slice_range c.self.inside.chunk.items c.self.inside.at c.self.inside.end c.args.count le)))
