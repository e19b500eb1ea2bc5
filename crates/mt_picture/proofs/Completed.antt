-- The entry of a command is complete.
use Rattle.std.proofs.Common.{ℕ, ◌<◌, ◌≤◌, ◌^◌, refl}
use Rattle.mt_base.specs.declared.command.Command.{Command}
use Rattle.mt_base.specs.declared.command.Command.TheVariants.{Clear, Tentative}
use Rattle.mt_base.specs.Bounds.{IsBoundedCommand}
use Rattle.mt_base.specs.Complete.{HasNames, IsComplete, IsTimed}
use Rattle.mt_base.specs.Decision.{filled}
use Rattle.mt_picture.proofs.Filled.{filled_bounded}

filled_named : (now : ℕ) (c : Command) → HasNames c → HasNames (filled now c)
filled_named now (Clear call clearance eff) named = named
filled_named now (Tentative call clearance eff) named = named
filled_named now c named = named

filled_timed : (now : ℕ) (c : Command) → IsTimed (filled now c)
filled_timed now (Clear call clearance eff) = refl
filled_timed now (Tentative call clearance eff) = refl
filled_timed now c = tt

pub complete_entry : (who now : ℕ) (c : Command) → HasNames c → IsBoundedCommand c → now ≤ 10000000 → who < 2 ^ 32
    → IsComplete (record { who = who; command = filled now c })
complete_entry who now c named within early fits = record {
  names = filled_named now c named;
  timed = filled_timed now c;
  bounded = filled_bounded now c early within;
  who = fits;
}
