-- Commands that are prepared on the state of a picture now.
use Rattle.std.proofs.Common.{◌≡◌, ℕ, List, length, take, Some, Err, sym, ◌∙◌, ap, subst, arith}
use Rattle.std.proofs.Math.Seq.{take-length}
use Rattle.mt_base.specs.declared.command.Command.{Command}
use Rattle.mt_base.specs.declared.command.Command.TheVariants.{Tentative}
use Rattle.mt_base.specs.declared.command.Entry.{Entry}
use Rattle.mt_base.specs.Bounds.{AreWithinBounds}
use Rattle.mt_base.specs.Effect.{state_of}
use Rattle.mt_base.specs.Picture.{State}
use Rattle.mt_base.specs.Tables.{Setup}
use Rattle.mt_base.proofs.HistoryLemmas.{version_is}
use Rattle.mt_board.specs.declared.no.No.{No}
use Rattle.mt_board.specs.declared.no.No.TheVariants as nos
use Rattle.mt_picture.specs.Story.{IsPrepGivenFor, IsPreparedFor, IsCommandRefused, Story}
use Rattle.mt_probe.specs.Prepared.{IsPrepOf, IsRefusedOn, MakesStrand, Prepared, judged_aside}
use Rattle.mt_probe.specs.Shot.{Shot}
use Rattle.mt_probe.specs.Shot.{state_in_shot as state_in}
use Rattle.mt_probe.proofs.Aside.{aside_refused}

-- what is prepared for an actor is prepared for the one that asks
pub prepared_for : (c : Command) (who preparer : ℕ) → preparer ≡ who → IsPreparedFor c who preparer
prepared_for (Tentative call clearance eff) who preparer is = is
prepared_for c who preparer is = tt

-- what is prepared on the state now is a prep of the picture
pub given_now : (story : Story) (shot : Shot) (who : ℕ) (c : Command) (p : Prepared) → MakesStrand c → shot.setup ≡ story.setup
    → state_in shot ≡ state_of story.setup story.history → IsPrepOf shot who c p → IsPrepGivenFor story who c (Some p)
given_now story shot who c p makes same is prep =
    let state_is : p.state ≡ state_of story.setup story.history = prep.state_is ∙ is in
    let version : p.state.version ≡ length story.history = ap (λ (s : State). s.version) state_is ∙ version_is story.setup story.history in
    let whole : take p.state.version story.history ≡ story.history =
    ap (λ (n : ℕ). take n story.history) version ∙ take-length story.history in
    record {
      makes = makes;
      setup_is = prep.setup_is ∙ same;
      command_is = prep.command_is;
      who_is = prepared_for c who p.who prep.who_is;
      within = omega (arith, version);
      state_is = state_is ∙ ap (λ (h : List Entry). state_of story.setup h) (sym whole);
    }

-- a refusal to prepare is that of the picture
pub denied_now : (story : Story) (shot : Shot) (who : ℕ) (c : Command) (no : No) → MakesStrand c → shot.setup ≡ story.setup
    → state_in shot ≡ state_of story.setup story.history → AreWithinBounds story.setup.rules → IsRefusedOn shot who c no → IsCommandRefused story who c no
denied_now story shot who c (nos.Refused refusal version) makes same is rules refused =
    let counted : shot.version ≡ length story.history = ap (λ (s : State). s.version) is ∙ version_is story.setup story.history in
    let here : judged_aside story.setup (state_of story.setup story.history) who c ≡ Err refusal =
    subst (λ (s : State). judged_aside story.setup s who c ≡ Err refusal) is
    (subst (λ (s : Setup). judged_aside s (state_in shot) who c ≡ Err refusal) same refused.0) in
    (aside_refused story.setup (state_of story.setup story.history) who c refusal rules makes here, refused.1 ∙ counted)
denied_now story shot who c nos.Memory makes same is rules refused = tt
