use Rattle.std.proofs.Common.{◌≡◌, ◌≤◌, ◌^◌, ◌-◌, ℕ, List, None}
use Rattle.std.specs.Io.KnownBytes.{Appends}
use Rattle.mt_top.specs.Private.Lines.{IsSettingUp, LinesSoFar}
use Rattle.mt_top.proofs.lines.Lines.answer_all.Given as goal

abbrev pub invariant-loop-ending : goal.invariant-loop-ending
invariant-loop-ending g l = record {
  so_far : (sent : List ℕ) × Appends (g.K.Sink.held l.fn.output) (g.K.Sink.held l.output) sent
      × LinesSoFar g.A.Answers.replied l.fn.until_begun (g.S.Source.left l.fn.input) (g.S.Source.left l.input) sent l.self.outgoing l.self.reader (g.A.Answers.world l.self.script);
  sound : l.self.reader.fault ≡ None;
  bound : l.self.reader.given ≤ 2 ^ 32;
  setting : IsSettingUp l.fn.until_begun None (g.A.Answers.world l.self.script);
  read : g.S.Source.faults l.fn.input ≤ g.S.Source.faults l.input;
  written : g.K.Sink.faults l.fn.output ≤ g.K.Sink.faults l.output;
  reads : g.S.Source.reads_to l.fn.input l.input;
  writes : g.K.Sink.writes_to l.fn.output l.output;
}

abbrev pub decreases-loop-ending : goal.decreases-loop-ending
decreases-loop-ending g l = 2 ^ 32 - l.self.reader.given
