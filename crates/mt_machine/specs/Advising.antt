-- A clearance that advice gives.
use Rattle.std.specs.Prelude.{ℕ, List, [], None, Ok}
use Rattle.mt_base.specs.declared.clearance.Clearance.{Clearance}
use Rattle.mt_base.specs.Bounds.{IsBoundedClearance}
use Rattle.mt_base.specs.Picture.{State}
use Rattle.mt_base.specs.Tables.{Setup}
use Rattle.mt_base.specs.WhatIf.{IsWhatIf}

-- a bounded clearance without hits
pub record IsClearanceFree (setup : Setup) (s : State) (call : List ℕ) (clearance : Clearance) : Type 0 where
  pub bounded : IsBoundedClearance clearance
  pub follows : IsWhatIf setup s call clearance None (Ok [])
