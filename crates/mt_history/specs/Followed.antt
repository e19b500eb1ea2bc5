-- When a history follows an entry, and why it doesn't.
use Rattle.std.specs.Prelude.{◌≡◌, [], ◌∷◌, ◌++◌, length, Ok, Err, ⊤}
use Rattle.mt_base.specs.declared.command.Entered.{Entered}
use Rattle.mt_base.specs.declared.command.Entry.{Entry}
use Rattle.mt_base.specs.Decision.{IsDecided}
use Rattle.mt_base.specs.Effect.{entered_by, state_of}
use Rattle.mt_base.specs.History.{IsInTime}
use Rattle.mt_history.specs.declared.following.FollowNo.{FollowNo}
use Rattle.mt_history.specs.declared.following.FollowNo.TheVariants.{Illegal, Late, Memory}
use Rattle.mt_picture.specs.Story.{Story}

-- the entry is what is decided of its command, and now stands last. It comes in time, is asked for by who made it, on the state of the history, and
-- is answered.
pub record HasFollowed (before : Story) (e : Entry) (after : Story) (entered : Entered) : Type 0 where
  pub in_time : IsInTime (length before.history) e.command
  pub decided : IsDecided before.setup (state_of before.setup before.history) e.who e.command (Ok e)
  pub after_is : after ≡ record { setup = before.setup; history = before.history ++ e ∷ [] }
  pub answered : entered ≡ entered_by before.setup (state_of before.setup before.history) e

-- why an entry isn't followed: probed at a later version, refused, or no memory. At the version of the history.
abbrev pub IsNotFollowed : Story → Entry → FollowNo → Type 0
IsNotFollowed story e (Late version) = (version ≡ length story.history) × (¬ IsInTime (length story.history) e.command)
IsNotFollowed story e (Illegal version refusal) = (version ≡ length story.history) × IsInTime (length story.history) e.command
    × IsDecided story.setup (state_of story.setup story.history) e.who e.command (Err refusal)
IsNotFollowed story e Memory = ⊤
