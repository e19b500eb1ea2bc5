-- Requests change neither the rules nor the tables once the picture has begun.
use Rattle.std.proofs.Common.{◌≡◌, ◌∙◌, ◌⊎◌, inl, inr, ⊎_elim, ℕ, Bool, true, false, List, Option, Some, None, Result, Ok, Err, refl, ap}
use Rattle.std.specs.Prelude.{MatchBool}
use Rattle.mt_base.specs.declared.command.Entry.{Entry}
use Rattle.mt_base.specs.declared.command.Refusal.{Refusal}
use Rattle.mt_base.specs.declared.clearance.Clearance.{Clearance}
use Rattle.mt_base.specs.declared.hit.Hit.{Hit}
use Rattle.mt_board.specs.Probing.{ToldProbe}
use Rattle.mt_board.specs.Book.{probe_at}
use Rattle.mt_read.specs.declared.request.Request.{Request}
use Rattle.mt_read.specs.declared.request.Request.TheVariants as requests
use Rattle.mt_write.specs.declared.reply.Reply.{Reply}
use Rattle.mt_world.specs.World.{IsAcceptedOf, IsAdvisedAs, IsWorldLeft, IsOutcome, IsServed, IsStarved, IsTrialAnswered, World, actor_of, is_empty}
use Rattle.mt_base.specs.Tables.{Tables}
use Rattle.mt_base.proofs.Cases.{on_either}
use Rattle.mt_world.specs.Private.Kept.{IsBegunWith, IsSetupKept}
use Rattle.mt_world.proofs.Told.{ask_same}

pub when_true : (b : Bool) (P Q : Type 0) → b ≡ true → MatchBool b P Q → P
when_true true P Q e m = m
when_true false P Q e m = cc

-- a world with these rules and these tables, begun as before
kept_as : (w next after : World) → next ≡ after → after.rules ≡ w.rules → after.tables ≡ w.tables → after.begun ≡ w.begun → IsSetupKept w next
kept_as w next after is rules tables begun = record {
  rules_are = ap (λ (v : World). v.rules) is ∙ rules;
  tables_are = ap (λ (v : World). v.tables) is ∙ tables;
  begun_is = ap (λ (v : World). v.begun) is ∙ begun;
}

pub kept_same : (w next : World) → next ≡ w → IsSetupKept w next
kept_same w next same = kept_as w next w same refl refl refl

outcome : (w next : World) (decision : Result Entry Refusal) (reply : Reply) → IsOutcome w decision reply next → IsSetupKept w next
outcome w next (Ok entry) reply g = kept_as w next _ g.next_is refl refl refl
outcome w next (Err refusal) reply r = kept_same w next r.same

tried : (w next : World) (who : ℕ) (call : List ℕ) (clearance : Clearance) (eff : ℕ) (result : Result (List Hit) Refusal) (reply : Reply)
    → IsTrialAnswered w who call clearance eff result reply next → IsSetupKept w next
tried w next who call clearance eff (Ok hits) reply g = kept_as w next _ g.next_is refl refl refl
tried w next who call clearance eff (Err refusal) reply r = kept_same w next r.same

advised : (w next : World) (who : ℕ) (call : List ℕ) (eff : ℕ) (advice : Result (List Clearance) Refusal) (reply : Reply)
    → IsAdvisedAs w who call eff advice reply next → IsSetupKept w next
advised w next who call eff (Ok all) reply g = kept_as w next _ g.next_is refl refl refl
advised w next who call eff (Err refusal) reply r = kept_same w next r.same

accepted : (w next : World) (who : ℕ) (found : Option ToldProbe) (reply : Reply) → IsAcceptedOf w who found reply next → IsSetupKept w next
accepted w next who None reply r = kept_same w next r.same
accepted w next who (Some probe) reply a =
    on_either (is_empty probe.hits) _ _ _ (λ changed. outcome w next changed.decision reply changed.outcome) (λ r. kept_same w next r.same) a

module _ (w next : World) (who : ℕ) (reply : Reply) (begun : w.begun ≡ true) where
  pub kept_served : (request : Request) → IsServed w who request reply next → IsSetupKept w next
  kept_served (requests.Fix name x y) served = kept_same w next (when_true w.begun _ _ begun served).same
  kept_served (requests.TypeLine name bands) served = kept_same w next (when_true w.begun _ _ begun served).same
  kept_served (requests.Area area) served = kept_same w next (when_true w.begun _ _ begun served).same
  kept_served (requests.Rule set) served = kept_same w next (when_true w.begun _ _ begun served).same
  kept_served requests.Begin served = kept_same w next (when_true w.begun _ _ begun served).same
  kept_served (requests.Hello role) served = kept_same w next served.next_is
  kept_served requests.Bye served = kept_same w next served.next_is
  kept_served (requests.Ask ask) served = kept_same w next (ask_same w next ask reply (when_true w.begun _ _ begun served))
  kept_served (requests.Change command) served =
      let changed = when_true w.begun _ _ begun served in outcome w next changed.decision reply changed.outcome
  kept_served requests.Take served = kept_as w next _ (when_true w.begun _ _ begun served).next_is refl refl refl
  kept_served (requests.Probe call clearance eff) served =
      let probed = when_true w.begun _ _ begun served in tried w next who call clearance _ probed.result reply probed.tried
  kept_served (requests.Accept number) served =
      accepted w next who (probe_at (actor_of w who).book number) reply (when_true w.begun _ _ begun served)
  kept_served (requests.Advise call) served =
      let given = when_true w.begun _ _ begun served in advised w next who call _ given.result reply given.told
  kept_served requests.Settle served =
      let settling = when_true w.begun _ _ begun served in kept_as w next _ settling.given.next_is refl refl refl
  kept_served requests.Areas served = kept_same w next (when_true w.begun _ _ begun served).same

  kept_left : (request : Request) → IsWorldLeft w who request next → IsSetupKept w next
  kept_left requests.Settle left = ⊎_elim (kept_same w next) (λ part. kept_as w next _ part.next_is refl refl refl) left
  kept_left request left = kept_same w next left

  -- what is served of a world that has begun, or found no memory, keeps its rules and tables
  pub kept_or : (request : Request) → IsServed w who request reply next ⊎ IsStarved w who request reply next → IsSetupKept w next
  kept_or request (inl served) = kept_served request served
  kept_or request (inr starved) = kept_left request starved.left

  pub still_begun : (tables : Tables) (request : Request) → IsBegunWith tables w → IsServed w who request reply next ⊎ IsStarved w who request reply next
      → IsBegunWith tables next
  still_begun tables request with_these served =
      let kept = kept_or request served in
      record { begun_is = kept.begun_is ∙ begun; tables_are = kept.tables_are ∙ with_these.tables_are }
