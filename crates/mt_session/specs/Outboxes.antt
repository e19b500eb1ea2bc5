-- An outbox that may be there, as a call gets it and as it leaves it.
use Rattle.std.specs.Prelude.{◌⊎◌, Option, Some, None}
use Rattle.std.proofs.Common.{inl, inr}
use Rattle.std.specs.Borrow.{MutBor}
use Rattle.mt_workers.specs.Jobs.{Jobs}

module _ {O : Type 0} (jobs : O → Option Jobs) where
  -- `outbox_before`, `outbox_after`: an outbox's jobs before and after
  abbrev pub outbox_before : Option (MutBor O) → Option (Option Jobs)
  outbox_before None = None
  outbox_before (Some outbox) = Some (jobs outbox.now)

  abbrev pub outbox_after : Unit {0} ⊎ ((MutBor O × Unit {0}) ⊎ ⊥) → Option (Option Jobs)
  outbox_after (inr (inl outbox)) = Some (jobs outbox.0.now)
  outbox_after _ = None
