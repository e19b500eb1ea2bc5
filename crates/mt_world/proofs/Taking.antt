-- What is tried on the snapshot that an actor has taken.
use Rattle.std.proofs.Common.{◌≡◌, ◌⊎◌, inl, inr, ℕ, ◌<◌, List, length, map, take, get_or, Option, Some, Result, Ok, Err, IfOk, refl, subst, sym, ◌∙◌, ap}
use Rattle.mt_base.specs.declared.area.Area.{Area}
use Rattle.mt_base.specs.declared.clearance.Clearance.{Clearance}
use Rattle.mt_base.specs.declared.hit.Hit.{Hit}
use Rattle.mt_base.specs.Advice.{IsAdvice}
use Rattle.mt_base.specs.Effect.{state_of}
use Rattle.mt_base.specs.Picture.{State}
use Rattle.mt_base.specs.Tables.{Setup}
use Rattle.mt_base.specs.Tally.{raised}
use Rattle.mt_board.specs.declared.no.No.{No}
use Rattle.mt_board.specs.declared.no.No.TheVariants as nos
use Rattle.mt_board.specs.Probing.{free_probe}
use Rattle.mt_lines.specs.Fit.{AreBrief}
use Rattle.mt_board.specs.Book.{with_all, with_probe}
use Rattle.mt_picture.specs.Story.{Story}
use Rattle.mt_probe.specs.Hits.{IsTried, Trial, told_of}
use Rattle.mt_probe.specs.Shot.{state_in_shot as state_in}
use Rattle.mt_snapshot.specs.Advised.{IsAdvisedOn}
use Rattle.mt_write.specs.declared.reply.AdviceItem.{AdviceItem}
use Rattle.mt_write.specs.declared.reply.Reply.TheVariants as replies
use Rattle.mt_world.specs.declared.actor.Actor.{Actor}
use Rattle.mt_world.specs.Private.Sound.{IsAdvisedOf, IsProbeOf, IsSoundActor, IsSoundWorld, IsUnadvisedOf, IsUnprobedOf, clearances_of, actor_shown}
use Rattle.mt_lines.specs.Told.{no_reply}
use Rattle.mt_world.specs.World.{IsAdviceAnswered, IsProbeAnswered, IsRefused, World, actor_of, items_from, picture_taken, with_book, world_of}
use Rattle.mt_world.specs.World as world
use Rattle.mt_world.proofs.Advice.{tried_are}
use Rattle.mt_world.proofs.BriefHits.{brief_hits}
use Rattle.mt_world.proofs.WorldLemmas.{actor_is, actor_sound}

-- a world as its fields show it
abbrev pub seen : List Area → Story → List Actor → World
seen areas story actors = world_of story areas (map actor_shown actors)

module _ (areas : List Area) (story : Story) (actors : List Actor) (who : ℕ) (a : Actor) (sound : IsSoundWorld story actors) (below : who < 16) (is : a ≡ get_or actors who a) where
  actor : IsSoundActor story.setup story.history a
  actor = actor_sound story actors who a sound below is

  pub taken_version : a.taken.version ≡ (actor_of (seen areas story actors) who).taken
  taken_version =
      let within : who < length actors = rw sound.sixteen below in
      ap (λ (b : world.Actor). b.taken) (sym (actor_is actors who a within is))

  pub taken_state : state_in a.taken ≡ picture_taken (seen areas story actors) who
  taken_state = actor.taken.state_is ∙ ap (λ (n : ℕ). state_of story.setup (take n story.history)) taken_version

  -- advice on it
  pub advised_of : (call : List ℕ) (eff version : ℕ) (probes : List Trial) → IsAdvisedOn a.taken call eff version probes
      → IsAdvisedOf (seen areas story actors) who call eff version probes
  advised_of call eff version probes on = record {
    eff_is = on.eff_is ∙ ap (λ (s : State). s.now) taken_state;
    version_is = on.version_is ∙ taken_version;
    clearances = on.clearances;
    advice = subst (λ (s : State). IsAdvice story.setup s call (Ok on.clearances)) taken_state
        (subst (λ (s : Setup). IsAdvice s (state_in a.taken) call (Ok on.clearances)) actor.taken.setup_is on.advice);
    told = on.told;
    few = on.few;
  }

  pub advised_result : {A : Type 0} (r : Result A No) (eff version : A → ℕ) (probes : A → List Trial) (call : List ℕ)
      → IfOk r (λ x. IsAdvisedOn a.taken call (eff x) (version x) (probes x))
      → IfOk r (λ x. IsAdvisedOf (seen areas story actors) who call (eff x) (version x) (probes x))
  advised_result (Ok x) eff version probes call on = advised_of call (eff x) (version x) (probes x) on
  advised_result (Err denied) eff version probes call on = tt

-- a probe of the actor's clearance
pub probed_is : (w next : World) (who : ℕ) (call : List ℕ) (clearance : Clearance) (eff : Option ℕ) (p : Trial) (conflicts : List Hit) (at number version : ℕ)
    → IsProbeOf w who call clearance eff p → conflicts ≡ p.hits → at ≡ p.eff → version ≡ p.shot.version
    → number ≡ raised (actor_of w who).book.count → next ≡ with_book w who (with_probe (actor_of w who).book (told_of p))
    → IsProbeAnswered w who call clearance eff (replies.Probe conflicts at number version) next
probed_is w next who call clearance eff p conflicts at number version of hits second counted numbered is = record {
  result = Ok p.hits;
  follows = of.follows;
  tried = record {
    reply_is = λ i. replies.Probe (hits i) ((second ∙ of.eff_is) i) (numbered i) ((counted ∙ of.version_is) i);
    next_is = is ∙ (λ i. with_book w who (with_probe (actor_of w who).book
        (record { call = of.call_is i; clearance = of.clearance_is i; eff = of.eff_is i; version = of.version_is i; hits = p.hits })));
  };
}

-- or its refusal
pub unprobed_is : (w : World) (who : ℕ) (call : List ℕ) (clearance : Clearance) (eff : Option ℕ) (denied : No) → IsUnprobedOf w who call clearance eff denied
    → IsProbeAnswered w who call clearance eff (no_reply denied) w ⊎ IsRefused w replies.Memory (no_reply denied) w
unprobed_is w who call clearance eff (nos.Refused refusal version) refused = inl (record {
  result = Err refusal;
  follows = refused.0;
  tried = record { reply_is = ap (replies.Refused refusal) refused.1; same = refl };
})
unprobed_is w who call clearance eff nos.Memory refused = inr (record { reply_is = refl; same = refl })

-- the hits of a probe are few enough for its reply
pub brief_tried : (p : Trial) → IsTried p → AreBrief p.hits
brief_tried p tried = brief_hits p.shot.setup (state_in p.shot) p.call p.clearance (Some p.eff) p.hits tried.follows tried.short tried.moment

-- advice to the actor
pub advised_is : (w next : World) (who : ℕ) (call : List ℕ) (eff version count : ℕ) (probes : List Trial) (items : List AdviceItem)
    → IsAdvisedOf w who call eff version probes → count ≡ (actor_of w who).book.count → items ≡ items_from count (clearances_of probes)
    → next ≡ with_book w who (with_all (actor_of w who).book (map told_of probes)) → IsAdviceAnswered w who call (replies.Advice items call eff version) next
advised_is w next who call eff version count probes items of counted listed is =
    let tried : clearances_of probes ≡ of.clearances = tried_are probes call eff version of.clearances of.told in
    record {
      result = Ok of.clearances;
      advice = of.advice;
      told = record {
        reply_is = (λ i. replies.Advice (listed i) call (of.eff_is i) (of.version_is i))
            ∙ (λ i. replies.Advice (items_from (counted i) (tried i)) call (picture_taken w who).now (actor_of w who).taken);
        next_is = is ∙ (λ i. with_book w who (with_all (actor_of w who).book (of.told i)))
            ∙ (λ i. with_book w who (with_all (actor_of w who).book (map (free_probe call (of.eff_is i) (of.version_is i)) of.clearances)));
      };
    }

pub unadvised_is : (w : World) (who : ℕ) (call : List ℕ) (denied : No) → IsUnadvisedOf w who call denied
    → IsAdviceAnswered w who call (no_reply denied) w ⊎ IsRefused w replies.Memory (no_reply denied) w
unadvised_is w who call (nos.Refused refusal version) refused = inl (record {
  result = Err refusal;
  advice = refused.0;
  told = record { reply_is = ap (replies.Refused refusal) refused.1; same = refl };
})
unadvised_is w who call nos.Memory refused = inr (record { reply_is = refl; same = refl })
