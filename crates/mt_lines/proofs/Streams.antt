-- What a call leaves of a stream, step by step.
use Rattle.std.proofs.Common.{◌≤◌, ℕ, arith}
use Rattle.mt_lines.specs.Streams.{TellsFault}

-- a call told none before
pub behind : {told : Type 0} {before between now : ℕ} → before ≤ between → TellsFault told between now → TellsFault told before now
behind later so = record { cause = λ is. omega (arith, later, so.cause is); later = omega (arith, later, so.later) }

-- no fault is told
pub untold : {told : Type 0} {before now : ℕ} → before ≤ now → (told → ⊥) → TellsFault told before now
untold later none = record { cause = λ is. absurd (none is); later = later }

-- a fault that is told as another is
pub told_as : {told other : Type 0} {before now : ℕ} → (other → told) → TellsFault told before now → TellsFault other before now
told_as means so = record { cause = λ is. so.cause (means is); later = so.later }
