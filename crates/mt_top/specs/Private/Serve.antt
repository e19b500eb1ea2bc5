-- No public contract names these: they are of private steps and of proofs.
use Rattle.std.specs.Prelude.{◌≡◌, ℕ, Bool, true, false, List, Option}
use Rattle.std.specs.Io.KnownBytes.{Appends}
use Rattle.mt_picture.specs.Story.{Story}
use Rattle.mt_serve.specs.declared.counts.Counts.{Counts}
use Rattle.mt_top.specs.declared.status.Status.{Status}
use Rattle.mt_top.specs.declared.status.Status.TheVariants.{Done, Usage, Setup, ReadFault, WriteFault, DoorFault, Spent, Memory}
use Rattle.mt_top.specs.Serve.{IsClosingLine, IsFront, IsSummaryWritten}

-- `Appended`, `SaysClosing`: what was appended of the summary line once links were served, and what the status says of it
abbrev pub Appended : (List ℕ → Type 0) → Option (List ℕ) → Option (List ℕ) → Type 0
Appended Sums held after = (shown : List ℕ) × Sums shown × Appends held after shown

abbrev pub SaysClosing : Story → Counts → Bool → ℕ → ℕ → Status → Option (List ℕ) → Option (List ℕ) → Type 0
SaysClosing closed counts faulted before now Done held after = (faulted ≡ false) × Appended (IsClosingLine closed counts) held after
SaysClosing closed counts faulted before now DoorFault held after = (faulted ≡ true) × Appended (IsSummaryWritten before now closed counts) held after
SaysClosing closed counts faulted before now WriteFault held after = (faulted ≡ false) × Appended (IsFront closed counts) held after
SaysClosing closed counts faulted before now Memory held after = ⊥
SaysClosing closed counts faulted before now Setup held after = ⊥
SaysClosing closed counts faulted before now ReadFault held after = ⊥
SaysClosing closed counts faulted before now Spent held after = ⊥
SaysClosing closed counts faulted before now Usage held after = ⊥
