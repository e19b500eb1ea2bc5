-- Commands that are entered into the picture of a world.
use Rattle.std.proofs.Common.{◌≡◌, ◌⊎◌, inl, inr, ℕ, List, [], ◌∷◌, ◌++◌, Result, Ok, Err, IfOk, refl, sym, ◌∙◌, ap, subst}
use Rattle.std.specs.Prelude.{IfErr, OnErr, OnOk}
use Rattle.mt_base.specs.declared.command.Command.{Command}
use Rattle.mt_base.specs.declared.command.Command.TheVariants.{Accept}
use Rattle.mt_base.specs.declared.command.Entered.{Entered}
use Rattle.mt_base.specs.declared.command.Entry.{Entry}
use Rattle.mt_base.specs.Bounds.{IsAskedFor}
use Rattle.mt_base.specs.History.{IsLegal, WasFree}
use Rattle.mt_base.specs.Tables.{Setup}
use Rattle.mt_board.specs.declared.no.No.{No}
use Rattle.mt_board.specs.declared.no.No.TheVariants as nos
use Rattle.mt_picture.specs.Story.{IsEntered, IsCommandRefused as IsDenied, Story}
use Rattle.mt_write.specs.declared.reply.Reply.TheVariants as replies
use Rattle.mt_world.specs.declared.actor.Actor.{Actor}
use Rattle.mt_world.specs.Private.Sound.{IsSoundWorld, story_of}
use Rattle.mt_lines.specs.Told.{entered_reply}
use Rattle.mt_world.specs.World.{IsCommandAnswered, IsRefused, World}
use Rattle.mt_world.proofs.WorldLemmas.{sound_push}

-- ---- commands that are asked for by themselves

pub asked_free : (setup : Setup) (h : List Entry) (c : Command) → IsAskedFor c → WasFree setup h c
asked_free setup h (Accept call clearance eff probed) asked = absurd asked
asked_free setup h c asked = tt

-- ---- what a command leaves

-- the picture has the same rules and tables
pub same_setup : (before after : Story) (who : ℕ) (c : Command) (result : Result Entered No) → IfOk result (IsEntered before after who c)
    → OnErr result (after ≡ before) → after.setup ≡ before.setup
same_setup before after who c (Ok entered) is unchanged = is.same
same_setup before after who c (Err denied) is unchanged = ap (λ (s : Story). s.setup) unchanged

-- its actors are sound
pub sound_after : (before after : Story) (actors : List Actor) (who : ℕ) (c : Command) (result : Result Entered No) → IsSoundWorld before actors
    → WasFree before.setup before.history c → IfOk result (IsEntered before after who c) → OnErr result (after ≡ before)
    → OnOk result (IsLegal before.setup before.history → WasFree before.setup before.history c → IsLegal after.setup after.history)
    → IsSoundWorld after actors
sound_after before after actors who c (Ok entered) sound free is unchanged legal =
    let longer : after ≡ record { setup = before.setup; history = before.history ++ is.entry ∷ [] } =
    λ i. record { setup = is.same i; history = is.longer i } in
    subst (λ (s : Story). IsSoundWorld s actors) (sym longer) (sound_push before.setup before.history is.entry actors sound
    (subst (λ (s : Story). IsLegal s.setup s.history) longer (legal sound.legal free)))
sound_after before after actors who c (Err denied) sound free is unchanged legal = subst (λ (s : Story). IsSoundWorld s actors) (sym unchanged) sound

-- what is answered of a command
pub changed_is : (w next : World) (who : ℕ) (c : Command) (result : Result Entered No) → next ≡ record w { history = next.history }
    → IfOk result (IsEntered (story_of w) (story_of next) who c) → IfErr result (IsDenied (story_of w) who c) → OnErr result (next ≡ w)
    → IsCommandAnswered w who c (entered_reply result) next ⊎ IsRefused w replies.Memory (entered_reply result) next
changed_is w next who c (Ok entered) kept is denied unchanged = inl (record {
  decision = Ok is.entry;
  decided = is.decided;
  outcome = record {
    reply_is = ap replies.Entered is.answered;
    next_is = kept ∙ ap (λ (h : List Entry). record w { history = h }) is.longer;
  };
})
changed_is w next who c (Err (nos.Refused refusal version)) kept is denied unchanged = inl (record {
  decision = Err refusal;
  decided = denied.0;
  outcome = record { reply_is = ap (replies.Refused refusal) denied.1; same = unchanged };
})
changed_is w next who c (Err nos.Memory) kept is denied unchanged = inr (record { reply_is = refl; same = unchanged })

-- what follows from a fact of an error holds of it
pub on_err : {T E : Type 0} (result : Result T E) (P Q : Type 0) → (P → Q) → OnErr result P → OnErr result Q
on_err (Ok done) P Q more is = tt
on_err (Err error) P Q more is = more is
