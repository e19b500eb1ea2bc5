-- What serving means: the lines that set a picture up, the links that were served over it, and the line that sums it up.
use Rattle.std.specs.Prelude.{◌≡◌, ◌⊎◌, ℕ, Bool, true, false, List, ◌++◌}
use Rattle.mt_io.specs.Causes.{Rose}
use Rattle.mt_io.specs.declared.source.Source as Source
use Rattle.mt_io.specs.declared.sink.Sink as Sink
use Rattle.mt_picture.specs.Story.{Story}
use Rattle.mt_serve.specs.Closing.{IsClosing, closing_text}
use Rattle.mt_serve.specs.Summary.{HasServedWhole}
use Rattle.mt_serve.specs.Tied.{Doorway}
use Rattle.mt_serve.specs.declared.closing.Closing.{Closing}
use Rattle.mt_serve.specs.declared.counts.Counts.{Counts}
use Rattle.mt_top.specs.Opening.{BeginsPicture, OpeningMeans}
use Rattle.mt_top.specs.declared.status.Status.{Status}
use Rattle.mt_top.specs.declared.status.Status.TheVariants.{Done, Usage, Setup, ReadFault, WriteFault, DoorFault, Spent, Memory}

-- the summary line of a closed picture and its sessions
pub record IsClosingLine (closed : Story) (counts : Counts) (line : List ℕ) : Type 0 where
  pub closing : Closing
  pub summed : IsClosing closed counts closing
  pub line_is : line ≡ closing_text closing

-- a front of the summary line was written
abbrev pub IsFront : Story → Counts → List ℕ → Type 0
IsFront closed counts shown = (rest : List ℕ) × IsClosingLine closed counts (shown ++ rest)

-- the whole summary line was written, or a front where the output failed
abbrev pub IsSummaryWritten : ℕ → ℕ → Story → Counts → List ℕ → Type 0
IsSummaryWritten before now closed counts shown = IsClosingLine closed counts shown ⊎ (Rose before now × IsFront closed counts shown)

module _ {L : Type 0} (source : Source.Ghosts L) (sink : Sink.Ghosts L) (port sessions workers : ℕ) (old new : Doorway L) where
  -- the picture began, its links were served, and a summary was written. Lines of the input up to the one that begins a picture were answered. One
  -- legal history, that of the closed picture, ties all that each link was sent and answered. What sums it up was written after the answers, as far
  -- as `Sums` says.
  pub record AreServed (faulted : Bool) (Sums : Story → Counts → List ℕ → Type 0) (input left written : List ℕ) : Type 0 where
    pub picture : Story
    pub opened : List ℕ
    pub begins : BeginsPicture input left opened picture
    pub closed : Story
    pub counts : Counts
    pub served : HasServedWhole source sink picture.setup port sessions workers old new faulted closed counts
    pub shown : List ℕ
    pub sums : Sums closed counts shown
    pub written_is : written ≡ opened ++ shown

  -- the picture began, and the door wasn't called
  abbrev pub AreUnserved : List ℕ → List ℕ → List ℕ → Type 0
  AreUnserved input left written = (picture : Story) × BeginsPicture input left written picture × (new ≡ old)

  -- what a status says of serving: how the lines, then the links, were answered. Of the input, of what is left of it, and of the bytes written:
  -- before the picture has begun it is that of the lines so far, and the door wasn't called; nor was it where memory ran out. `before` and `now`
  -- are what the output counts of its faults.
  abbrev pub ServeMeans : ℕ → ℕ → Status → List ℕ → List ℕ → List ℕ → Type 0
  ServeMeans before now Done input left written = AreServed false IsClosingLine input left written
  ServeMeans before now DoorFault input left written = AreServed true (IsSummaryWritten before now) input left written
  ServeMeans before now WriteFault input left written = (OpeningMeans WriteFault input left written × (new ≡ old)) ⊎ AreServed false IsFront input left written
  ServeMeans before now Memory input left written = (OpeningMeans Memory input left written × (new ≡ old)) ⊎ AreUnserved input left written
  ServeMeans before now Setup input left written = OpeningMeans Setup input left written × (new ≡ old)
  ServeMeans before now ReadFault input left written = OpeningMeans ReadFault input left written × (new ≡ old)
  ServeMeans before now Spent input left written = OpeningMeans Spent input left written × (new ≡ old)
  ServeMeans before now Usage input left written = ⊥
