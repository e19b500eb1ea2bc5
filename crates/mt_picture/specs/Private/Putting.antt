-- No public contract names these: they are of private steps and of proofs.
-- A flight that an entry leaves in a slot.
use Rattle.std.specs.Prelude.{◌≡◌, ◌<◌, ◌+◌, ◌++◌, ◌∷◌, [], ℕ, List, Option, Some, None, length, option_map, slice_get}
use Rattle.mt_base.specs.declared.command.Command.{Command}
use Rattle.mt_base.specs.declared.command.Command.TheVariants.{Commit, Drop, Tentative}
use Rattle.mt_base.specs.declared.command.Entry.{Entry}
use Rattle.mt_base.specs.declared.conflict.Kind.{Kind}
use Rattle.mt_base.specs.declared.conflict.Kind.TheVariants as kinds
use Rattle.mt_base.specs.declared.flight.Record.{Record}
use Rattle.mt_base.specs.declared.hit.Hit.{Hit}
use Rattle.mt_base.specs.Decision.{call_of}
use Rattle.mt_base.specs.Effect.{now_after, records_after}
use Rattle.mt_base.specs.Picture.{State}
use Rattle.mt_base.specs.Tables.{Setup}
use Rattle.mt_base.specs.Trajectory.{Trajectory}
use Rattle.mt_base.specs.WhatIf.{AreHitsOf}
use Rattle.mt_probe.specs.declared.flight.Flight.{Flight}
use Rattle.mt_probe.specs.Items.{path_of}
use Rattle.mt_probe.specs.Prepared.{kind_made}
use Rattle.mt_probe.specs.Putting.{Fits, records_put}
use Rattle.mt_probe.specs.Shot.{Shot, flight_at, records_in}
use Rattle.mt_picture.specs.Private.Places.{IsNewOrStays, stamped_at}
use Rattle.mt_picture.specs.Stamps.{IsFiling}

-- the entry leaves this flight in the slot, which was empty or its own. It fits there, the records with it are those that the entry leaves, and each
-- of its trajectories is made now or stays with its stamp. A flight that is new there is filed now, and each is named now.
pub record IsFlightPut (shot : Shot) (slot : ℕ) (f : Flight) (e : Entry) : Type 0 where
  pub inside : slot < length shot.slots
  pub fits : Fits shot slot f
  pub was : (g : Flight) → flight_at shot slot ≡ Some g → g.card.call ≡ f.card.call
  pub made : (kind : Kind) → IsNewOrStays (flight_at shot slot) (shot.version + 1) e.command f kind
  pub filed : flight_at shot slot ≡ None → (f.filed ≡ shot.version + 1) × IsFiling e.command
  pub named : f.named ≡ shot.version + 1
  pub names : call_of e.command ≡ Some f.card.call
  pub still : now_after e.command shot.now ≡ shot.now
  pub records : records_put (flight_at shot slot) (Some f) (records_in shot.slots)
      ≡ records_after shot.setup e.who e.command (records_in shot.slots)

-- the entry takes away the flight of the slot
pub record IsFlightTaken (shot : Shot) (slot : ℕ) (e : Entry) : Type 0 where
  pub call : List ℕ
  pub there : option_map (λ f. f.card.call) (flight_at shot slot) ≡ Some call
  pub drops : e.command ≡ Drop call

-- the entry leaves this flight in the slot, or none
abbrev pub IsSlotPut : Shot → ℕ → Option Flight → Entry → Type 0
IsSlotPut shot slot (Some f) e = IsFlightPut shot slot f e
IsSlotPut shot slot None e = IsFlightTaken shot slot e

-- the history after a command that is entered, or stopped by a hit
abbrev pub history_after : List Entry → Entry → Option Hit → List Entry
history_after h e None = h ++ e ∷ []
history_after h e (Some hit) = h

-- the first of the hits of a trajectory
pub record IsFirstOf (setup : Setup) (s : State) (call : List ℕ) (t : Trajectory) (first : Option Hit) : Type 0 where
  pub hits : List Hit
  pub all : AreHitsOf setup s call t hits
  pub first_is : first ≡ slice_get hits 0

-- what a command that makes a trajectory leaves of the other one
abbrev pub RestIs : Command → Option Flight → Flight → Type 0
RestIs (Tentative call clearance eff) old f = stamped_at kinds.Actual (Some f) ≡ stamped_at kinds.Actual old
RestIs (Commit call) old f = f.mark ≡ None
RestIs command old f = stamped_at kinds.Tentative (Some f) ≡ stamped_at kinds.Tentative old

-- a flight with a new trajectory, of the kind that the command makes, in the place of the old one
pub record IsRemade (old : Option Flight) (version : ℕ) (command : Command) (card : Record) (t : Trajectory) (f : Flight) : Type 0 where
  pub card_is : f.card ≡ card
  pub filed_is : Some f.filed ≡ option_map (λ g. g.filed) old
  pub named_is : f.named ≡ version
  pub new : path_of (kind_made command) f ≡ Some t
  pub stamp : stamped_at (kind_made command) (Some f) ≡ Some (record { call = card.call; kind = kind_made command; path = t }, version)
  pub rest : RestIs command old f

-- a flight with this record, named at this version, and with all else that the old one has
pub record IsKeptFlight (old : Option Flight) (version : ℕ) (card : Record) (f : Flight) : Type 0 where
  pub card_is : f.card ≡ card
  pub filed_is : Some f.filed ≡ option_map (λ g. g.filed) old
  pub named_is : f.named ≡ version
  pub actual : stamped_at kinds.Actual (Some f) ≡ stamped_at kinds.Actual old
  pub mark : stamped_at kinds.Tentative (Some f) ≡ stamped_at kinds.Tentative old
