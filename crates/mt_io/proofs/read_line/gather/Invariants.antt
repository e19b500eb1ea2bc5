use Rattle.std.proofs.Common.{◌≡◌, ◌≤◌, ◌+◌, ◌-◌, ◌*◌, ◌^◌, false, length}
use Rattle.mt_io.proofs.Gathering.{IsGathering}
use Rattle.mt_io.proofs.read_line.gather.Given as goal

abbrev pub invariant-pieces : goal.invariant-pieces
invariant-pieces g l = record {
  so_far : IsGathering l.fn.ahead l.ahead (g.S.Source.left l.fn.source) (g.S.Source.left l.source) l.line.bytes.items l.line.is_long;
  going : l.ahead.ended ≡ false;
  later : g.S.Source.faults l.fn.source ≤ g.S.Source.faults l.source;
  kept : g.S.Source.reads_to l.fn.source l.source;
}

abbrev pub decreases-pieces : goal.decreases-pieces
decreases-pieces g l = 2 * (2 ^ 32 - l.ahead.taken) + length l.ahead.ahead
