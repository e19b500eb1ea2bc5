-- No public contract names these: they are of private steps and of proofs.
use Rattle.std.specs.Prelude.{◌≡◌, ℕ, List}
use Rattle.mt_base.specs.declared.command.Command.{Command}
use Rattle.mt_base.specs.declared.flight.Record.{Record}
use Rattle.mt_base.specs.Trajectory.{Trajectory}
use Rattle.mt_cover.specs.Sliced.{Sliced, slices_of}
use Rattle.mt_probe.specs.declared.finding.Found.{Found}
use Rattle.mt_probe.specs.Shot.{Shot, state_in_shot}
use Rattle.mt_probe.specs.Prepared.{IsPrepared, Prepared}

-- a preparation, as contracts see it
abbrev pub prepared_of : Shot → ℕ → Command → Record → Trajectory → List Found → Prepared
prepared_of shot who command card strand finds = record {
  setup = shot.setup;
  state = state_in_shot shot;
  who = who;
  command = command;
  card = card;
  strand = strand;
  finds = finds;
}

-- a preparation is right, and beside it are kept the slices of its trajectory
pub record IsPrepKept (p : Prepared) (slices : Sliced) : Type 0 where
  pub right : IsPrepared p
  pub sliced : slices ≡ slices_of p.setup.rules p.strand
