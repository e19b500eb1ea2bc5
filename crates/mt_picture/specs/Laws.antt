-- What follows from the clauses of a picture.
use Rattle.std.specs.Prelude.{◌≡◌, ◌<◌, ◌+◌, ℕ, List, length, take, Contains}
use Rattle.mt_base.specs.declared.clearance.Clearance.{Clearance}
use Rattle.mt_base.specs.declared.command.Entry.{Entry}
use Rattle.mt_base.specs.declared.conflict.Conflict.{Conflict}
use Rattle.mt_base.specs.declared.hit.Hit.{Hit}
use Rattle.mt_base.specs.Effect.{state_of}
use Rattle.mt_base.specs.History.{IsLegal}
use Rattle.mt_base.specs.Picture.{IsPublished}
use Rattle.mt_base.specs.StrikeOut.{Withdrawn, ended_at, history_of, strike_out}
use Rattle.mt_base.specs.Tables.{Setup}
use Rattle.mt_base.specs.WhatIf.{AreHits}

-- the history without its last withdrawal publishes the same. It ends with the withdrawal of a tentative clearance; without the two it is legal.
pub record IsRestored (setup : Setup) (h : List Entry) (conflicts : List Conflict) : Type 0 where
  pub withdrawn : Withdrawn
  pub history_is : history_of withdrawn ≡ h
  pub last : ended_at withdrawn + 1 ≡ length h
  pub legal : IsLegal setup (strike_out withdrawn)
  pub published : IsPublished setup (state_of setup (strike_out withdrawn)) conflicts

-- a hit that the probe didn't have, at a later version
pub record IsSinceProbe (setup : Setup) (h : List Entry) (call : List ℕ) (clearance : Clearance) (eff probed version : ℕ) (hit : Hit) : Type 0 where
  pub not_then : (hits : List Hit) → AreHits setup (state_of setup (take probed h)) call clearance eff hits → ¬ Contains hits hit
  pub later : probed < version
