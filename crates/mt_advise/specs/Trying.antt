-- Which flight is advised, and what holds of each clearance that is tried for it.
use Rattle.std.specs.Prelude.{◌≡◌, ℕ, List, Some, Ok}
use Rattle.mt_base.specs.declared.clearance.Clearance.{Clearance}
use Rattle.mt_base.specs.declared.flight.Base.{Base}
use Rattle.mt_base.specs.declared.flight.Course.{Course}
use Rattle.mt_base.specs.declared.flight.Path.TheVariants.{Planned}
use Rattle.mt_base.specs.declared.flight.Record.{Record}
use Rattle.mt_base.specs.Advice.{base_now}
use Rattle.mt_base.specs.Bounds.{AreBoundedTables, IsBoundedClearance, IsSoundCourse}
use Rattle.mt_base.specs.Checks.{judged}
use Rattle.mt_base.specs.Picture.{State, flight_of}
use Rattle.mt_base.specs.Tables.{Setup}
use Rattle.mt_base.specs.WhatIf.{what_if_checks}

-- the planned flight, its course and its current base
pub record FliesOn (setup : Setup) (s : State) (call : List ℕ) (course : Course) (base : Base) : Type 0 where
  pub tables : AreBoundedTables setup.tables
  pub sound : IsSoundCourse setup course
  pub flight : Record
  pub there : flight_of s.records call ≡ Some flight
  pub planned : flight.path ≡ Planned course
  pub from : base_now setup s.now course ≡ Some base

-- a bounded clearance that no check refuses now
pub record CanBeTried (setup : Setup) (s : State) (call : List ℕ) (clearance : Clearance) : Type 0 where
  pub bounded : IsBoundedClearance clearance
  pub passed : judged (what_if_checks setup s.now (flight_of s.records call) call clearance s.now) (tt {0}) ≡ Ok (tt {0})
