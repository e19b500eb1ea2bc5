-- What an outbox takes, and what an inbox gives.
use Rattle.std.specs.Prelude.{◌≡◌, ◌<◌, ◌≤◌, ℕ, List, [], ◌∷◌, ◌++◌, length, Option, Some, None, IfSome, ⊤}

-- the flights of the jobs taken, and the room
pub record Jobs : Type 0 where
  pub taken : List (List ℕ)
  pub room : ℕ

-- no outbox takes no job
abbrev pub no_jobs : Jobs
no_jobs = record { taken = []; room = 0 }

-- a job is taken, as there was room. It stands after the others. An outbox whose jobs are unknown stays so.
abbrev pub TakesJob : Option Jobs → List ℕ → Option Jobs → Type 0
TakesJob None call after = after ≡ None
TakesJob (Some jobs) call after = (length jobs.taken < jobs.room) × (after ≡ Some (record jobs { taken = jobs.taken ++ call ∷ [] }))

-- a job is given back, as there was no room
abbrev pub GivesBack : Option Jobs → Option Jobs → Type 0
GivesBack before after = (after ≡ before) × IfSome before (λ jobs. jobs.room ≤ length jobs.taken)

-- these jobs were taken from the front of those left, where known
abbrev pub AreTaken : Option (List (List ℕ)) → Option (List (List ℕ)) → List (List ℕ) → Type 0
AreTaken None after calls = ⊤
AreTaken (Some left) None calls = ⊥
AreTaken (Some left) (Some rest) calls = left ≡ calls ++ rest

-- no job is left, where known
abbrev pub AreJobsOver : Option (List (List ℕ)) → Type 0
AreJobsOver left = IfSome left (λ calls. calls ≡ [])
