-- No public contract names these: they are of private steps and of proofs.
use Rattle.std.specs.Prelude.{◌+◌}
use Rattle.mt_session.specs.declared.outcome.Outcome.{Outcome}
use Rattle.mt_serve.specs.declared.counts.Counts.{Counts}
use Rattle.mt_base.specs.StrikeOut.{one_if}
use Rattle.mt_serve.specs.Summary.{is_faulted, is_starved_session}

-- `no_counts`, `with_outcome`: no sessions counted, and one session more, of that outcome
abbrev pub no_counts : Counts
no_counts = record { sessions = 0; faulted = 0; starved = 0 }

abbrev pub with_outcome : Outcome → Counts → Counts
with_outcome outcome counts = record {
  sessions = counts.sessions + 1;
  faulted = counts.faulted + one_if (is_faulted outcome);
  starved = counts.starved + one_if (is_starved_session outcome);
}
