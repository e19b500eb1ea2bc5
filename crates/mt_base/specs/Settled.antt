-- Renewing the flights that are due.
use Rattle.std.specs.Prelude.{◌≡◌, ℕ, List, [], ◌∷◌, ◌++◌, Bool, false, filter, map, Ok, Err, ◌⊎◌}
use Rattle.std.specs.Option.{option_map_or}
use Rattle.mt_base.specs.declared.command.Command.TheVariants.{Renew}
use Rattle.mt_base.specs.declared.command.Entry.{Entry}
use Rattle.mt_base.specs.declared.command.Refusal.{Refusal}
use Rattle.mt_base.specs.declared.flight.Course.{Course}
use Rattle.mt_base.specs.declared.flight.Record.{Record}
use Rattle.mt_base.specs.Decision.{IsDecided}
use Rattle.mt_base.specs.Effect.{state_of}
use Rattle.mt_base.specs.Tables.{Setup}
use Rattle.mt_base.specs.WhatIf.{course_on}

-- a flight is due for a new trajectory
abbrev pub is_due : Record → Bool
is_due flight = option_map_or (λ (course : Course). course.due) (course_on flight.path) false

-- the due flights' callsigns, in filing order
abbrev pub due_calls : List Record → List (List ℕ)
due_calls flights = map (λ flight. flight.call) (filter is_due flights)

-- `IsRenewed`, `IsPassedOver`: a renewal that is entered, and one that is refused
pub record IsRenewed (setup : Setup) (who : ℕ) (call : List ℕ) (h next : List Entry) : Type 0 where
  pub entry : Entry
  pub decided : IsDecided setup (state_of setup h) who (Renew call) (Ok entry)
  pub next_is : next ≡ h ++ entry ∷ []

pub record IsPassedOver (setup : Setup) (who : ℕ) (call : List ℕ) (h next : List Entry) : Type 0 where
  pub refusal : Refusal
  pub decided : IsDecided setup (state_of setup h) who (Renew call) (Err refusal)
  pub next_is : next ≡ h

-- flights are renewed in turn, refused ones passed over. Each renewal is decided on the history so far.
abbrev pub AreRenewed : Setup → ℕ → List (List ℕ) → List Entry → List Entry → Type 0
AreRenewed setup who [] h next = next ≡ h
AreRenewed setup who (call ∷ calls) h next =
    (between : List Entry) × (IsRenewed setup who call h between ⊎ IsPassedOver setup who call h between) × AreRenewed setup who calls between next

-- exactly the flights due at first are renewed, in filing order
abbrev pub IsSettled : Setup → ℕ → List Entry → List Entry → Type 0
IsSettled setup who h next = AreRenewed setup who (due_calls (state_of setup h).records) h next

-- the first of them were renewed before memory ran out
pub record IsSettledInPart (setup : Setup) (who : ℕ) (h next : List Entry) : Type 0 where
  pub done : List (List ℕ)
  pub left : List (List ℕ)
  pub all : due_calls (state_of setup h).records ≡ done ++ left
  pub renewed : AreRenewed setup who done h next
