-- What a run means, by what its words ask for.
use Rattle.std.proofs.Common.{◌≡◌, ℕ, List, [], None, refl, sym, subst}
use Rattle.std.specs.declared.option.Option.{Option}
use Rattle.std.specs.Io.KnownBytes.{Appends}
use Rattle.mt_args.specs.declared.task.Task.{Task}
use Rattle.mt_args.specs.Task.{task_of}
use Rattle.mt_io.specs.declared.source.Source as Source
use Rattle.mt_io.specs.declared.sink.Sink as Sink
use Rattle.mt_io.proofs.HasRead.{told}
use Rattle.mt_io.proofs.Known.{consumes_none}
use Rattle.mt_lines.specs.Answering.{Explains}
use Rattle.mt_lines.proofs.Answering.{explained_as}
use Rattle.mt_world.specs.World.{World}
use Rattle.mt_write.specs.declared.reply.Reply.{Reply}
use Rattle.mt_top.specs.declared.status.Status.{Status}
use Rattle.mt_top.specs.declared.status.Status.TheVariants.{Done, Usage, Setup, ReadFault, WriteFault, DoorFault, Spent, Memory}
use Rattle.mt_serve.specs.Tied.{Doorway}
use Rattle.mt_top.specs.Run.{AnswersMean, IsNoFault, RunMeans, TaskMeans}

module _ {L : Type 0} (source : Source.Ghosts L) (sink : Sink.Ghosts L) (old new : Doorway L) (f g : ℕ) where
  -- what holds by what the words ask for
  pub asked_for : (words : List (List ℕ)) (task : Option Task) (status : Status) (before after held held_after : Option (List ℕ)) → task_of words ≡ task
      → Explains (TaskMeans source sink old new f g task status) before after held held_after
      → Explains (RunMeans source sink old new f g words status) before after held held_after
  asked_for words task status before after held held_after is means =
      subst (λ (t : Option Task). Explains (TaskMeans source sink old new f g t status) before after held held_after) (sym is) means

-- the door wasn't called
pub uncalled : {L : Type 0} (old new : Doorway L) (Means : List ℕ → List ℕ → List ℕ → Type 0) (before after held held_after : Option (List ℕ)) → new ≡ old
    → Explains Means before after held held_after → Explains (λ input left written. Means input left written × (new ≡ old)) before after held held_after
uncalled old new Means before after held held_after same explained =
    explained_as Means (λ input left written. Means input left written × (new ≡ old)) before after held held_after
    (λ input left written means. (means, same)) explained

-- nothing was read, and these bytes were written
pub wrote : (Means : List ℕ → List ℕ → List ℕ → Type 0) (before held held_after : Option (List ℕ)) (written : List ℕ) → Appends held held_after written
    → ((left : List ℕ) → Means left left written) → Explains Means before before held held_after
wrote Means before held held_after written appended means =
    let (left, tells, tells_after, at_end) = told before before [] (consumes_none before) in
    record { input = left; left = left; written = written; told = tells; told_after = tells; appended = appended; means = means left }

-- Whatever the input has left, a status means what no bytes can: it isn't the status.
pub refuted : (Means : Status → List ℕ → List ℕ → List ℕ → Type 0) (status other : Status) (held held_after : Option (List ℕ))
    → ((input left written : List ℕ) → ¬ Means other input left written) → ((left : Option (List ℕ)) → Explains (Means status) left left held held_after) → ¬ (status ≡ other)
refuted Means status other held held_after never means is =
    let e = subst (λ (s : Status). Explains (Means s) None None held held_after) is (means None) in never e.input e.left e.written e.means

-- lines that are answered end by no fault of a door
pub no_door : (HasReply : World → List ℕ → Reply → World → Type 0) (status : Status) (before after held held_after : Option (List ℕ))
    → Explains (AnswersMean HasReply status) before after held held_after → ¬ (status ≡ DoorFault)
no_door HasReply status before after held held_after means is =
    let e = subst (λ (s : Status). Explains (AnswersMean HasReply s) before after held held_after) is means in e.means

-- where no fault can be the status, none is
pub faultless : (status : Status) → ¬ (status ≡ ReadFault) → ¬ (status ≡ WriteFault) → ¬ (status ≡ DoorFault) → IsNoFault status
faultless ReadFault read write door = absurd (read refl)
faultless WriteFault read write door = absurd (write refl)
faultless DoorFault read write door = absurd (door refl)
faultless Done read write door = tt
faultless Usage read write door = tt
faultless Setup read write door = tt
faultless Spent read write door = tt
faultless Memory read write door = tt
