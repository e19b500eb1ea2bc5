-- Jobs in memory.
use Rattle.std.specs.Prelude.{map}
use Rattle.mt_workers.specs.declared.outbox.MemOutbox.{MemOutbox}
use Rattle.mt_workers.specs.Jobs.{Jobs}

-- the jobs that it took, and its room
abbrev pub jobs_of : MemOutbox → Jobs
jobs_of outbox = record { taken = map (λ job. job.call) outbox.taken.items; room = outbox.room }
