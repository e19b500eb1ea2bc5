-- The parts of serving, put together.
use Rattle.std.proofs.Common.{◌≡◌, ◌≤◌, inl, inr, ⊎_elim, ℕ, Bool, true, false, List, ◌++◌, Option, refl, subst, arith}
use Rattle.mt_io.specs.declared.source.Source as Source
use Rattle.mt_io.specs.declared.sink.Sink as Sink
use Rattle.mt_io.proofs.Known.{appends_on}
use Rattle.mt_lines.specs.Answering.{Explains}
use Rattle.mt_lines.proofs.Answering.{explained_as}
use Rattle.mt_picture.specs.Story.{Story}
use Rattle.mt_serve.specs.Summary.{HasServedWhole}
use Rattle.mt_serve.specs.Tied.{Doorway}
use Rattle.mt_serve.specs.declared.counts.Counts.{Counts}
use Rattle.mt_top.specs.Opening.{BeginsPicture}
use Rattle.mt_top.specs.Serve.{AreServed, IsClosingLine, IsFront, IsSummaryWritten, ServeMeans}
use Rattle.mt_top.specs.Private.Serve.{Appended, SaysClosing}
use Rattle.mt_top.specs.declared.status.Status.{Status}
use Rattle.mt_top.specs.declared.status.Status.TheVariants.{Done, Usage, Setup, ReadFault, WriteFault, DoorFault, Spent, Memory}

-- the same, where the output's count is known from before
shown_later : (f g h : ℕ) (closed : Story) (counts : Counts) (shown : List ℕ) → f ≤ g → IsSummaryWritten g h closed counts shown → IsSummaryWritten f h closed counts shown
shown_later f g h closed counts shown later is = ⊎_elim (λ whole. inl whole) (λ (rose, front). inr (omega (arith, rose, later), front)) is

pub says_later : (closed : Story) (counts : Counts) (faulted : Bool) (f g h : ℕ) (status : Status) (held after : Option (List ℕ)) → f ≤ g
    → SaysClosing closed counts faulted g h status held after → SaysClosing closed counts faulted f h status held after
says_later closed counts faulted f g h Done held after later said = said
says_later closed counts faulted f g h DoorFault held after later (is, (shown, sums, appended)) =
    (is, (shown, shown_later f g h closed counts shown later sums, appended))
says_later closed counts faulted f g h WriteFault held after later said = said
says_later closed counts faulted f g h Memory held after later none = absurd none
says_later closed counts faulted f g h Setup held after later none = absurd none
says_later closed counts faulted f g h ReadFault held after later none = absurd none
says_later closed counts faulted f g h Spent held after later none = absurd none
says_later closed counts faulted f g h Usage held after later none = absurd none

module _ {L : Type 0} (source : Source.Ghosts L) (sink : Sink.Ghosts L) (port sessions workers : ℕ) (old new : Doorway L) (f g : ℕ) where
  -- the picture has begun, and there was no memory for serving
  pub unserved : (picture : Story) (before after held held_after : Option (List ℕ)) → new ≡ old
      → Explains (λ input left written. BeginsPicture input left written picture) before after held held_after
      → Explains (ServeMeans source sink port sessions workers old new f g Memory) before after held held_after
  unserved picture before after held held_after same explained =
      explained_as (λ input left written. BeginsPicture input left written picture) (ServeMeans source sink port sessions workers old new f g Memory) before after held held_after
      (λ input left written begins. inr (picture, begins, same)) explained

  module _ (picture closed : Story) (counts : Counts) (faulted : Bool)
      (served : HasServedWhole source sink picture.setup port sessions workers old new faulted closed counts)
      (before after held middle held_after : Option (List ℕ))
      (explained : Explains (λ input left written. BeginsPicture input left written picture) before after held middle) where
    -- so much of what sums it up was written
    summed : (b : Bool) (Sums : Story → Counts → List ℕ → Type 0) → faulted ≡ b → Appended (Sums closed counts) middle held_after
        → Explains (AreServed source sink port sessions workers old new b Sums) before after held held_after
    summed b Sums is (shown, sums, appended) = record {
      input = explained.input;
      left = explained.left;
      written = explained.written ++ shown;
      told = explained.told;
      told_after = explained.told_after;
      appended = appends_on held middle held_after explained.written shown explained.appended appended;
      means = record {
        picture = picture;
        opened = explained.written;
        begins = explained.means;
        closed = closed;
        counts = counts;
        served = subst (λ z. HasServedWhole source sink picture.setup port sessions workers old new z closed counts) is served;
        shown = shown;
        sums = sums;
        written_is = refl;
      };
    }

    abbrev ServedAs : Bool → (Story → Counts → List ℕ → Type 0) → List ℕ → List ℕ → List ℕ → Type 0
    ServedAs b Sums = AreServed source sink port sessions workers old new b Sums

    abbrev Means : Status → List ℕ → List ℕ → List ℕ → Type 0
    Means status = ServeMeans source sink port sessions workers old new f g status

    pub closes : (status : Status) → SaysClosing closed counts faulted f g status middle held_after → Explains (Means status) before after held held_after
    closes Done said = summed false IsClosingLine said.0 said.1
    closes DoorFault said = summed true (IsSummaryWritten f g) said.0 said.1
    closes WriteFault said = explained_as (ServedAs false IsFront) (Means WriteFault) before after held held_after
        (λ input left written means. inr means) (summed false IsFront said.0 said.1)
    closes Memory none = absurd none
    closes Setup none = absurd none
    closes ReadFault none = absurd none
    closes Spent none = absurd none
    closes Usage none = absurd none
