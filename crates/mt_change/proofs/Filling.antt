-- A command with the second from which it holds.
use Rattle.std.proofs.Common.{◌≡◌, ℕ, ◌≤◌, Some, None, refl}
use Rattle.mt_base.specs.declared.command.Command.{Command}
use Rattle.mt_base.specs.declared.command.Command.TheVariants.{Clear, Accept, Tentative}
use Rattle.mt_base.specs.Bounds.{IsBoundedCommand}
use Rattle.mt_base.specs.Decision.{Look, call_of, checks, filled}
use Rattle.mt_base.specs.Tables.{Setup}
use Rattle.mt_change.specs.Altered.{Alters, IsBoundedBesides}

-- it is filled once
pub filled_twice : (now : ℕ) (c : Command) → filled now (filled now c) ≡ filled now c
filled_twice now (Clear call clearance eff) = refl
filled_twice now (Tentative call clearance eff) = refl
filled_twice now c = refl

-- it names the same flight, and changes a flight where it did
pub filled_call : (now : ℕ) (c : Command) → call_of (filled now c) ≡ call_of c
filled_call now (Clear call clearance eff) = refl
filled_call now (Tentative call clearance eff) = refl
filled_call now c = refl

pub filled_alters : (now : ℕ) (c : Command) → Alters c → Alters (filled now c)
filled_alters now (Clear call clearance eff) alters = alters
filled_alters now (Tentative call clearance eff) alters = alters
filled_alters now c alters = alters

-- it is judged as it was
pub filled_passes : (setup : Setup) (look : Look) (who : ℕ) (c : Command) → checks setup look who (filled look.now c) ≡ checks setup look who c
filled_passes setup look who (Clear call clearance eff) = refl
filled_passes setup look who (Tentative call clearance eff) = refl
filled_passes setup look who c = refl

-- and its numbers are within their bounds
pub filled_bounded_besides : (now : ℕ) (c : Command) → now ≤ 10000000 → IsBoundedBesides c → IsBoundedBesides (filled now c)
filled_bounded_besides now (Clear call clearance (Some eff)) early within = within
filled_bounded_besides now (Clear call clearance None) early within = (within.0, early)
filled_bounded_besides now (Tentative call clearance (Some eff)) early within = within
filled_bounded_besides now (Tentative call clearance None) early within = (within.0, early)
filled_bounded_besides now c early within = within

pub bounded_besides : (c : Command) → IsBoundedCommand c → IsBoundedBesides c
bounded_besides (Accept call clearance eff probed) within = (within.0, within.1)
bounded_besides c within = within
