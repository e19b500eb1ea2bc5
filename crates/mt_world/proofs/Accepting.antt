-- The acceptance of a probe of an actor's book.
use Rattle.std.proofs.Common.{◌≡◌, ◌⊎◌, inl, inr, ℕ, ◌<◌, Bool, false, List, [], ◌∷◌, length, map, get_or, take, Option, None, Some, Result, Ok, Err, IfOk, refl, sym, ◌∙◌, ap, subst, ◌==◌, arith}
use Rattle.std.specs.Option.{option_map}
use Rattle.std.specs.Prelude.{IfErr, MatchBool, OnErr}
use Rattle.mt_base.specs.declared.area.Area.{Area}
use Rattle.mt_base.specs.declared.command.Command.{Command}
use Rattle.mt_base.specs.declared.command.Command.TheVariants.{Accept}
use Rattle.mt_base.specs.declared.command.Entered.{Entered}
use Rattle.mt_base.specs.declared.command.Refusal.TheVariants.{NoProbe, NotFree}
use Rattle.mt_base.specs.declared.hit.Hit.{Hit}
use Rattle.mt_base.specs.Bounds.{AreWithinBounds, IsBoundedCommand}
use Rattle.mt_base.specs.Effect.{state_of}
use Rattle.mt_base.specs.History.{IsInTime, WasFree}
use Rattle.mt_base.specs.Picture.{State}
use Rattle.mt_base.specs.Tables.{Setup}
use Rattle.mt_base.specs.WhatIf.{IsWhatIf}
use Rattle.mt_board.specs.declared.no.No.{No}
use Rattle.mt_board.specs.Probing.{ToldProbe, acceptance}
use Rattle.mt_board.specs.Book.{probe_at}
use Rattle.mt_board.proofs.Books.{all_at, told_at}
use Rattle.mt_picture.specs.Story.{IsEntered, IsPrepGivenFor, IsCommandRefused as IsDenied, Story}
use Rattle.mt_picture.proofs.Counted.{history_counted}
use Rattle.mt_probe.specs.Hits.{IsTried, Trial, told_of}
use Rattle.mt_probe.specs.Prepared.{IsPrepOf, Prepared}
use Rattle.mt_probe.specs.Shot.{state_in_shot as state_in}
use Rattle.mt_write.specs.declared.reply.Reply.{Reply}
use Rattle.mt_write.specs.declared.reply.Reply.TheVariants as replies
use Rattle.mt_world.specs.declared.actor.Actor.{Actor}
use Rattle.mt_world.specs.Private.Sound.{IsKeptOf, IsSoundWorld, actor_shown}
use Rattle.mt_lines.specs.Told.{entered_reply}
use Rattle.mt_world.specs.World.{IsAcceptedOf, IsAccepted, IsCommandAnswered, IsRefused, World, actor_of, is_empty, world_of}
use Rattle.mt_world.specs.World as world
use Rattle.mt_world.proofs.Entering.{changed_is, same_setup}
use Rattle.mt_world.proofs.Taking.{seen}
use Rattle.mt_world.proofs.WorldLemmas.{actor_is, actor_sound}

full_list : {A : Type 0} (xs : List A) → (length xs == 0) ≡ false → is_empty xs ≡ false
full_list [] some = cc
full_list (x ∷ xs) some = refl

-- the command that accepts what was tried
abbrev pub accepting : Trial → Command
accepting p = Accept p.call p.clearance p.eff p.shot.version

module _ (areas : List Area) (story : Story) (actors : List Actor) (who : ℕ) (a : Actor) (sound : IsSoundWorld story actors) (below : who < 16) (is : a ≡ get_or actors who a)
    (number : ℕ) (p : Trial) (found : probe_at a.book number ≡ Some p) where
  kept : IsKeptOf story.setup story.history p
  kept = all_at (IsKeptOf story.setup story.history) a.book number p (actor_sound story actors who a sound below is).kept found

  pub accept_bounded : IsTried p → IsBoundedCommand (accepting p)
  accept_bounded tried =
      let rules : AreWithinBounds story.setup.rules = subst (λ (s : Setup). AreWithinBounds s.rules) kept.setup_is tried.rules in
      let counted = history_counted story.setup story.history rules sound.legal.replayable in
      (tried.clearance, tried.early, omega (arith, kept.past, counted))

  pub accept_in_time : IsInTime (length story.history) (accepting p)
  accept_in_time = kept.past

  pub accept_given : (prep : Prepared) → IsPrepOf p.shot 0 (accepting p) prep → IsPrepGivenFor story who (accepting p) (Some prep)
  accept_given prep of =
      let version : prep.state.version ≡ p.shot.version = ap (λ (s : State). s.version) of.state_is in
      record {
        makes = tt;
        setup_is = of.setup_is ∙ kept.setup_is;
        command_is = of.command_is;
        who_is = tt;
        within = omega (arith, version, kept.past);
        state_is = of.state_is ∙ kept.state_is ∙ ap (λ (n : ℕ). state_of story.setup (take n story.history)) (sym version);
      }

  pub accept_free : IsTried p → p.hits ≡ [] → WasFree story.setup story.history (accepting p)
  accept_free tried none =
      let free : IsWhatIf p.shot.setup (state_in p.shot) p.call p.clearance (Some p.eff) (Ok []) =
      subst (λ (hits : List Hit). IsWhatIf p.shot.setup (state_in p.shot) p.call p.clearance (Some p.eff) (Ok hits)) none tried.follows in
      subst (λ (s : State). IsWhatIf story.setup s p.call p.clearance (Some p.eff) (Ok [])) kept.state_is
      (subst (λ (s : Setup). IsWhatIf s (state_in p.shot) p.call p.clearance (Some p.eff) (Ok [])) kept.setup_is free)

  -- the probe of the number, as it is told
  pub told_found : probe_at (actor_of (seen areas story actors) who).book number ≡ Some (told_of p)
  told_found =
      let within : who < length actors = rw sound.sixteen below in
      ap (λ (b : world.Actor). probe_at b.book number) (actor_is actors who a within is) ∙ told_at told_of a.book number ∙ ap (option_map told_of) found

  pub not_free : (reply : Reply) → (length p.hits == 0) ≡ false → reply ≡ replies.Refused NotFree (length story.history)
      → IsAccepted (seen areas story actors) who number reply (seen areas story actors)
  not_free reply some refused = subst (λ (o : Option ToldProbe). IsAcceptedOf (seen areas story actors) who o reply (seen areas story actors)) (sym told_found)
      (subst (λ (b : Bool). MatchBool b (IsCommandAnswered (seen areas story actors) who (acceptance (told_of p)) reply (seen areas story actors))
      (IsRefused (seen areas story actors) (replies.Refused NotFree (length story.history)) reply (seen areas story actors))) (sym (full_list p.hits some))
      (record { reply_is = refused; same = refl }))

  pub accepted : (next : World) (reply : Reply) → p.hits ≡ []
      → IsCommandAnswered (seen areas story actors) who (accepting p) reply next ⊎ IsRefused (seen areas story actors) replies.Memory reply next
      → IsAccepted (seen areas story actors) who number reply next ⊎ IsRefused (seen areas story actors) replies.Memory reply next
  accepted next reply none (inl changed) = inl (subst (λ (o : Option ToldProbe). IsAcceptedOf (seen areas story actors) who o reply next) (sym told_found)
      (subst (λ (hits : List Hit). MatchBool (is_empty hits) (IsCommandAnswered (seen areas story actors) who (acceptance (told_of p)) reply next)
      (IsRefused (seen areas story actors) (replies.Refused NotFree (length story.history)) reply next)) (sym none) changed))
  accepted next reply none (inr memory) = inr memory

-- what is answered of a command, by what the picture answers
pub published_is : (areas : List Area) (story after : Story) (actors : List Actor) (who : ℕ) (c : Command) (result : Result Entered No) → IfOk result (IsEntered story after who c)
    → IfErr result (IsDenied story who c) → OnErr result (after ≡ story)
    → IsCommandAnswered (seen areas story actors) who c (entered_reply result) (seen areas after actors)
    ⊎ IsRefused (seen areas story actors) replies.Memory (entered_reply result) (seen areas after actors)
published_is areas story after actors who c result entered denied unchanged = changed_is (seen areas story actors) (seen areas after actors) who c result
    (λ i. world_of (record { setup = same i; history = after.history }) areas (map actor_shown actors))
    entered denied (seen_unchanged result unchanged) where
      same : after.setup ≡ story.setup
      same = same_setup story after who c result entered unchanged

      seen_unchanged : (r : Result Entered No) → OnErr r (after ≡ story) → OnErr r (seen areas after actors ≡ seen areas story actors)
      seen_unchanged (Ok entered) u = tt
      seen_unchanged (Err denied) u = ap (λ (s : Story). seen areas s actors) u

-- what isn't some is none
pub not_some : {A : Type 0} (o : Option A) → ((x : A) → o ≡ Some x → ⊥) → o ≡ None
not_some None never = refl
not_some (Some x) never = absurd (never x refl)

-- the book has no probe of the number
pub no_probe : (areas : List Area) (story : Story) (actors : List Actor) (who : ℕ) (a : Actor) → IsSoundWorld story actors → who < 16 → a ≡ get_or actors who a → (number : ℕ)
    → probe_at a.book number ≡ None → (reply : Reply) → reply ≡ replies.Refused NoProbe (length story.history)
    → IsAccepted (seen areas story actors) who number reply (seen areas story actors)
no_probe areas story actors who a sound below is number none reply refused =
    let within : who < length actors = rw sound.sixteen below in
    let told : probe_at (actor_of (seen areas story actors) who).book number ≡ None =
    ap (λ (b : world.Actor). probe_at b.book number) (actor_is actors who a within is) ∙ told_at told_of a.book number ∙ ap (option_map told_of) none in
    subst (λ (o : Option ToldProbe). IsAcceptedOf (seen areas story actors) who o reply (seen areas story actors)) (sym told) (record { reply_is = refused; same = refl })
