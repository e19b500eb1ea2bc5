-- Entries put into a picture, one more at a time.
use Rattle.std.proofs.Common.{◌≡◌, ◌<◌, ◌≤◌, ℕ, zero, suc, List, [], ◌∷◌, ◌++◌, length, get_or, take, Some, Ok, sym, ◌∙◌, ap, subst, arith}
use Rattle.std.specs.Prelude.{slice_get}
use Rattle.std.proofs.Math.Seq.{take-suc}
use Rattle.std.proofs.lemmas.List.{length-take-le, take_all}
use Rattle.mt_base.specs.declared.command.Command.{Command}
use Rattle.mt_base.specs.declared.command.Entered.{Entered}
use Rattle.mt_base.specs.declared.command.Entry.{Entry}
use Rattle.mt_base.specs.Decision.{IsDecided, checks, filled, look_at}
use Rattle.mt_base.specs.Effect.{entered_by, state_of}
use Rattle.mt_base.specs.History.{IsInTime, IsReplayable}
use Rattle.mt_base.specs.Picture.{State}
use Rattle.mt_base.specs.Tables.{Setup}
use Rattle.mt_base.proofs.CheckLemmas.{answer_is}
use Rattle.mt_picture.specs.Story.{IsEntered, Story}
use Rattle.mt_history.specs.declared.rebuilding.Wrong.{Wrong}
use Rattle.mt_history.specs.declared.rebuilding.Wrong.TheVariants.{Illegal, Late, Memory}
use Rattle.mt_history.specs.Followed.{HasFollowed}
use Rattle.mt_history.specs.Rebuilt.{IsWrong}
use Rattle.mt_history.specs.Private.Rebuilt.{IsWrongNext}

abbrev pub story_with : Setup → List Entry → Story
story_with setup h = record { setup = setup; history = h }

-- the entry that is entered is the entry that was put in
pub followed_is : (before after : Story) (e : Entry) (entered : Entered) → ((now : ℕ) → filled now e.command ≡ e.command)
    → IsInTime (length before.history) e.command → IsEntered before after e.who e.command entered → HasFollowed before e after entered
followed_is before after e entered timed early is =
    let s : State = state_of before.setup before.history in
    let kept : record { who = e.who; command = filled s.now e.command } ≡ is.entry =
    answer_is (checks before.setup (look_at s e.command) e.who e.command) (record { who = e.who; command = filled s.now e.command }) is.entry is.decided.0 in
    let same : is.entry ≡ e = sym kept ∙ ap (λ (c : Command). record { who = e.who; command = c }) (timed s.now) in
    let longer : after.history ≡ before.history ++ e ∷ [] = is.longer ∙ ap (λ (x : Entry). before.history ++ x ∷ []) same in
    record {
      in_time = early;
      decided = subst (λ (x : Entry). IsDecided before.setup s e.who e.command (Ok x)) same is.decided;
      after_is = λ i. story_with (is.same i) (longer i);
      answered = is.answered ∙ ap (entered_by before.setup s) same;
    }

-- The picture has the first entries, and these can be replayed.
pub record IsPutUpTo (setup : Setup) (entries : List Entry) (n : ℕ) (picture : Story) : Type 0 where
  pub picture_is : picture ≡ story_with setup (take n entries)
  pub replayable : IsReplayable setup (take n entries)

abbrev pub Replays : Story → Type 0
Replays story = IsReplayable story.setup story.history

put_more : (setup : Setup) (entries : List Entry) (n : ℕ) (e : Entry) (picture next : Story) → n < length entries → e ≡ get_or entries n e
    → IsPutUpTo setup entries n picture → next ≡ story_with picture.setup (picture.history ++ e ∷ []) → (Replays picture → Replays next)
    → IsPutUpTo setup entries (suc n) next
put_more setup entries n e picture next below at up is more =
    let grown : take n entries ++ e ∷ [] ≡ take (suc n) entries =
    sym (take-suc entries n e below ∙ ap (λ (x : Entry). take n entries ++ x ∷ []) (sym at)) in
    let next_is : next ≡ story_with setup (take (suc n) entries) =
    is ∙ ap (λ (p : Story). story_with p.setup (p.history ++ e ∷ [])) up.picture_is ∙ ap (λ (h : List Entry). story_with setup h) grown in
    record { picture_is = next_is; replayable = subst Replays next_is (more (subst Replays (sym up.picture_is) up.replayable)) }

pub put_next : (setup : Setup) (entries : List Entry) (n m : ℕ) (e : Entry) (picture next : Story) → m ≡ suc n → n < length entries
    → e ≡ get_or entries n e → IsPutUpTo setup entries n picture → next ≡ story_with picture.setup (picture.history ++ e ∷ [])
    → (Replays picture → Replays next) → IsPutUpTo setup entries m next
put_next setup entries n m e picture next after below at up is more =
    subst (λ (k : ℕ). IsPutUpTo setup entries k next) (sym after) (put_more setup entries n e picture next below at up is more)

pub put_whole : (setup : Setup) (entries : List Entry) (n : ℕ) (picture : Story) → length entries ≤ n → IsPutUpTo setup entries n picture
    → (picture ≡ story_with setup entries) × IsReplayable setup entries
put_whole setup entries n picture within up =
    let whole = take_all n entries within in
    (up.picture_is ∙ ap (λ (h : List Entry). story_with setup h) whole, subst (λ (h : List Entry). IsReplayable setup h) whole up.replayable)

slice_get_is : (entries : List Entry) (n : ℕ) (e : Entry) → n < length entries → e ≡ get_or entries n e → slice_get entries n ≡ Some e
slice_get_is [] n e below is = absurd (omega arith)
slice_get_is (x ∷ xs) zero e below is = ap Some (sym is)
slice_get_is (x ∷ xs) (suc n) e below is = slice_get_is xs n e (omega arith) is

-- what is wrong with the next entry is wrong with the entries
wrong_at : (setup : Setup) (entries : List Entry) (n : ℕ) (e : Entry) (wrong : Wrong) → n < length entries → e ≡ get_or entries n e
    → IsReplayable setup (take n entries) → IsWrongNext (story_with setup (take n entries)) e wrong → IsWrong setup entries wrong
wrong_at setup entries n e (Illegal place refusal) below is before wrong =
    let counted : place ≡ n = wrong.0 ∙ length-take-le n entries (omega arith) in
    rw counted (record { entry = e; is = slice_get_is entries n e below is; before = before; in_time = rw counted at wrong.1; refused = wrong.2 })
wrong_at setup entries n e (Late place) below is before wrong =
    let counted : place ≡ n = wrong.0 ∙ length-take-le n entries (omega arith) in
    rw counted (record { entry = e; is = slice_get_is entries n e below is; before = before; late = rw counted at wrong.1 })
wrong_at setup entries n e Memory below is before wrong = tt

pub put_wrong : (setup : Setup) (entries : List Entry) (n : ℕ) (e : Entry) (picture : Story) (wrong : Wrong) → n < length entries
    → e ≡ get_or entries n e → IsPutUpTo setup entries n picture → IsWrongNext picture e wrong → IsWrong setup entries wrong
put_wrong setup entries n e picture wrong below is up next =
    wrong_at setup entries n e wrong below is up.replayable (subst (λ (p : Story). IsWrongNext p e wrong) up.picture_is next)
