use Rattle.std.proofs.Common.{◌≡◌, ◌≤◌, ◌^◌, ◌-◌, ℕ, List, [], Option, None}
use Rattle.std.specs.Io.KnownBytes.{Appends}
use Rattle.mt_session.specs.Following.{Standing}
use Rattle.mt_session.specs.Private.Keeping.{StaysOn}
use Rattle.mt_session.specs.Private.SoFar.{SessionRuns}
use Rattle.mt_session.proofs.over_link.Lines.answer_all.Given as goal

abbrev pub invariant-loop-ending : goal.invariant-loop-ending
invariant-loop-ending g l = record {
  so_far : (start : Standing) (before : Option (List ℕ))
      → SessionRuns start before (g.L.Source.left l.initial.link) [] [] l.initial.self.reader (record { session = l.initial.self.serving.session; jobs = g.O.Outbox.jobs l.initial.jobs })
      → (sent : List ℕ) × Appends (g.L.Sink.held l.initial.link) (g.L.Sink.held l.link) sent
      × SessionRuns start before (g.L.Source.left l.link) sent l.self.outgoing l.self.reader (record { session = l.self.serving.session; jobs = g.O.Outbox.jobs l.jobs });
  on : StaysOn l.initial.self.serving l.self.serving;
  sound : l.self.reader.fault ≡ None;
  bound : l.self.reader.given ≤ 2 ^ 32;
  read : g.L.Source.faults l.initial.link ≤ g.L.Source.faults l.link;
  written : g.L.Sink.faults l.initial.link ≤ g.L.Sink.faults l.link;
}

abbrev pub decreases-loop-ending : goal.decreases-loop-ending
decreases-loop-ending g l = 2 ^ 32 - l.self.reader.given
