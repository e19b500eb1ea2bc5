use Rattle.std.proofs.Common.{◌≡◌, ◌+◌, ◌<◌, ◌≤◌, length, arith}
use Rattle.mt_track.specs.Laid.{all_rows}
use Rattle.mt_track.proofs.Segments.{edge-length, length-all_rows, lies_at, some_segment}
use Rattle.mt_track.proofs.Strands.{found}
use Rattle.mt_track.proofs.strand.Strand.holding.Goals as goal

pub loop-high-init : goal.loop-high-init
loop-high-init c =
    let in_fields : c.args.k < c.self.inside.start + length (all_rows c.self.inside.segments.items) = rw (← c.self.view_is) at c.requires.within in
    let begun : c.self.inside.start ≤ c.args.k = rw (← c.self.view_is) at c.requires.begun in
    let lie = c.self.invariant.adjoin in
    let covered : c.args.k < c.self.inside.end = omega (arith, length-all_rows _ _ _ lie) in
    let longer : c.self.inside.start < c.self.inside.end = omega arith in
    let number : c.len-high.result ≡ length c.self.inside.segments.items = omega (arith, c.self.inside.segments.ok.0) in
    rw number (record {
      some = some_segment _ _ _ lie longer;
      within = omega arith;
      begun = begun;
      ahead = rw (edge-length _ _ _ lie) covered;
    })

pub loop-high-preserved-then-index-k : goal.loop-high-preserved-then-index-k
loop-high-preserved-then-index-k c =
    let lies = lies_at c.self.inside.start c.self.inside.end c.self.inside.segments.items _ c.index.result.now c.self.invariant.adjoin (omega arith) c.index.ensures in
    record {
      some = omega arith;
      within = c.loop-high.invariant.within;
      begun = omega (arith, lies.from);
      ahead = c.loop-high.invariant.ahead;
    }

pub loop-high-preserved : goal.loop-high-preserved
loop-high-preserved c =
    let lies = lies_at c.self.inside.start c.self.inside.end c.self.inside.segments.items _ c.index.result.now c.self.invariant.adjoin (omega arith) c.index.ensures in
    record {
      some = omega arith;
      within = omega arith;
      begun = c.loop-high.invariant.begun;
      ahead = omega (arith, lies.from);
    }

pub returns : goal.returns
returns c = rw (← c.self.view_is) (found _ _ _ _ c.loop-high.low c.loop-high.high c.args.k c.index-2.result.now c.self.invariant
    c.loop-high.invariant.some c.loop-high.invariant.within (omega arith) (rw (← c.self.view_is) at c.requires.begun)
    c.loop-high.invariant.begun c.loop-high.invariant.ahead c.index-2.ensures)
