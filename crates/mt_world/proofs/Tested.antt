-- The tests of a request.
use Rattle.std.proofs.Common.{◌≡◌, ◌⊎◌, inl, inr, ℕ, ◌<◌, ◌∷◌, [], List, Option, Some, None, take, get_or, length, refl, sym, ◌∙◌, ap, subst}
use Rattle.mt_base.specs.declared.area.Area.{Area}
use Rattle.mt_base.specs.declared.clearance.Clearance.{Clearance}
use Rattle.mt_base.specs.declared.command.Command.{Command}
use Rattle.mt_base.specs.declared.command.Command.TheVariants.{Renew}
use Rattle.mt_base.specs.declared.command.Entry.{Entry}
use Rattle.mt_base.specs.Effect.{state_of}
use Rattle.mt_base.specs.Picture.{State}
use Rattle.mt_base.specs.Settled.{IsPassedOver, IsRenewed, due_calls}
use Rattle.mt_base.specs.Tables.{Setup}
use Rattle.mt_board.specs.declared.no.No.{No}
use Rattle.mt_board.specs.declared.no.No.TheVariants as nos
use Rattle.mt_board.specs.Probing.{ToldProbe}
use Rattle.mt_lines.specs.Told.{no_reply}
use Rattle.mt_board.specs.Book.{probe_at}
use Rattle.mt_board.proofs.Books.{all_at, told_at}
use Rattle.mt_picture.specs.Story.{Story}
use Rattle.mt_picture.proofs.Bounding.{none_within}
use Rattle.mt_probe.specs.Hits.{Trial, told_of}
use Rattle.mt_probe.specs.Prepared.{WasTestedFor}
use Rattle.mt_probe.specs.Tests.{WasTriedFor}
use Rattle.mt_world.specs.declared.actor.Actor.{Actor}
use Rattle.mt_world.specs.Counted.{WereEnough, WereTestsOfAcceptance, WereTestsOfChange, WereTestsOfPrep, WereTestsOfRenewals, WereTestsOfSettling, WereTestsOfTry}
use Rattle.mt_world.specs.Private.Renewed.{WereTestsOfSome}
use Rattle.mt_world.specs.Private.Sound.{IsKeptOf, IsSoundWorld, story_of}
use Rattle.mt_world.specs.World.{World, actor_of, picture_of, setup_of}
use Rattle.mt_world.proofs.Accepting.{accepting, told_found}
use Rattle.mt_world.proofs.Taking.{seen, taken_state}
use Rattle.mt_world.proofs.WorldLemmas.{actor_is, actor_sound}
use Rattle.mt_world.specs.World as world
use Rattle.std.specs.Option.{option_map}

-- a try on the snapshot that an actor has taken
pub tested_try : (areas : List Area) (story : Story) (actors : List Actor) (who : ℕ) (a : Actor) (sound : IsSoundWorld story actors) (below : who < 16)
    (is : a ≡ get_or actors who a) (call : List ℕ) (clearance : Clearance) (eff : Option ℕ) (old new : ℕ) → WasTriedFor a.taken call clearance eff old new
    → WereTestsOfTry (seen areas story actors) who call clearance eff old new
tested_try areas story actors who a sound below is call clearance eff old new tried = record {
  shot = a.taken;
  setup_is = (actor_sound story actors who a sound below is).taken.setup_is;
  state_is = taken_state areas story actors who a sound below is;
  tried = tried;
}

-- a command that was prepared or not, and not published
pub unpublished : (w : World) (then : State) (preparer who : ℕ) (c : Command) (old new : ℕ) → (new ≡ old) ⊎ WereTestsOfPrep (setup_of w) then preparer c old new
    → WereTestsOfChange w then preparer who c old new
unpublished w then preparer who c old new prepared = record {
  between = new;
  prep = None;
  prepared = prepared;
  published = none_within (story_of w) who c None new new refl;
}

-- ---- the acceptance of a probe of an actor's book

module _ (areas : List Area) (story : Story) (actors : List Actor) (who : ℕ) (a : Actor) (sound : IsSoundWorld story actors) (below : who < 16) (is : a ≡ get_or actors who a)
    (number : ℕ) (p : Trial) (found : probe_at a.book number ≡ Some p) where
  abbrev w : World
  w = seen areas story actors

  abbrev probed : State
  probed = state_of story.setup (take p.shot.version story.history)

  pub tested_accept : (old new : ℕ) → WereTestsOfChange w probed 0 who (accepting p) old new
      → WereTestsOfAcceptance w who (probe_at (actor_of w who).book number) old new
  tested_accept old new tested = subst (λ (o : Option ToldProbe). WereTestsOfAcceptance w who o old new)
      (sym (told_found areas story actors who a sound below is number p found)) tested

  -- its preparation, on the state that was probed
  pub tested_prep : (old new : ℕ) → WasTestedFor p.shot 0 (accepting p) old new → WereTestsOfPrep (setup_of w) probed 0 (accepting p) old new
  tested_prep old new tested =
      let k = kept_at in
      record { shot = p.shot; setup_is = k.setup_is; state_is = k.state_is; prepared = tested } where
        kept_at : IsKeptOf story.setup story.history p
        kept_at = all_at (IsKeptOf story.setup story.history) a.book number p (actor_sound story actors who a sound below is).kept found

-- ---- renewals

pub none_renewed : (w : World) (who : ℕ) (calls : List (List ℕ)) (old : ℕ) → WereTestsOfSome w who calls old old
none_renewed w who calls old = record { done = []; left = calls; first = refl; renewed = refl }

pub one_renewed : (w : World) (who : ℕ) (call : List ℕ) (calls rest : List (List ℕ)) (old new : ℕ) → calls ≡ call ∷ rest
    → WereTestsOfChange w (picture_of w) who who (Renew call) old new → WereTestsOfSome w who calls old new
one_renewed w who call calls rest old new is tested = record {
  done = call ∷ [];
  left = rest;
  first = is;
  renewed = (new, w.history, tested, inr refl, refl);
}

-- a renewal that is passed over leaves the history as it was
pub left_by : (setup : Setup) (who : ℕ) (call : List ℕ) (h next : List Entry) → IsRenewed setup who call h next ⊎ IsPassedOver setup who call h next
    → IsRenewed setup who call h next ⊎ (next ≡ h)
left_by setup who call h next (inl renewed) = inl renewed
left_by setup who call h next (inr over) = inr over.next_is

pub more_renewed : (w next : World) (who : ℕ) (call : List ℕ) (calls rest : List (List ℕ)) (old between new : ℕ) → calls ≡ call ∷ rest
    → WereTestsOfChange w (picture_of w) who who (Renew call) old between → next ≡ record w { history = next.history }
    → IsRenewed (setup_of w) who call w.history next.history ⊎ IsPassedOver (setup_of w) who call w.history next.history
    → WereTestsOfSome next who rest between new → WereTestsOfSome w who calls old new
more_renewed w next who call calls rest old between new is tested same step some = record {
  done = call ∷ some.done;
  left = some.left;
  first = is ∙ ap (λ (cs : List (List ℕ)). call ∷ cs) some.first;
  renewed = (
    between,
    next.history,
    tested,
    left_by (setup_of w) who call w.history next.history step,
    subst (λ (v : World). WereTestsOfRenewals v who some.done between new) same some.renewed,
  );
}

-- nothing was settled, or what renewals were made
pub none_settled : (w : World) (who old : ℕ) → WereTestsOfSettling w who old old
none_settled w who old = record { calls = []; left = due_calls (picture_of w).records; due = refl; renewed = refl }

pub some_settled : (w : World) (who : ℕ) (calls : List (List ℕ)) (old new : ℕ) → calls ≡ due_calls (picture_of w).records → WereTestsOfSome w who calls old new
    → WereTestsOfSettling w who old new
some_settled w who calls old new due some = record { calls = some.done; left = some.left; due = sym due ∙ some.first; renewed = some.renewed }

-- ---- no such probe

pub none_accepted : (areas : List Area) (story : Story) (actors : List Actor) (who : ℕ) (a : Actor) → IsSoundWorld story actors → who < 16 → a ≡ get_or actors who a
    → (number : ℕ) → probe_at a.book number ≡ None → (old : ℕ)
    → WereTestsOfAcceptance (seen areas story actors) who (probe_at (actor_of (seen areas story actors) who).book number) old old
none_accepted areas story actors who a sound below is number none old =
    let within : who < length actors = rw sound.sixteen below in
    let told : probe_at (actor_of (seen areas story actors) who).book number ≡ None =
    ap (λ (b : world.Actor). probe_at b.book number) (actor_is actors who a within is) ∙ told_at told_of a.book number ∙ ap (option_map told_of) none in
    subst (λ (o : Option ToldProbe). WereTestsOfAcceptance (seen areas story actors) who o old old) (sym told) refl

-- ---- a refused probe tells no conflict

pub refused_enough : (no : No) (old new : ℕ) → WereEnough (no_reply no) old new
refused_enough (nos.Refused refusal version) old new = tt
refused_enough nos.Memory old new = tt
