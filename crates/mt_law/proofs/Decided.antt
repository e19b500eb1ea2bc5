-- What is decided of a command, a refusal too, is the same without the tentative clearance of a flight, unless the command handles it.
use Rattle.std.proofs.Common.{◌≢◌, ◌↔◌, inl, inr, ⊎_elim, ℕ, List, [], ◌∷◌, Some, Ok, Err, sym, ◌∙◌}
use Rattle.std.specs.Prelude.{Result}
use Rattle.mt_base.specs.declared.command.Command.{Command}
use Rattle.mt_base.specs.declared.command.Command.TheVariants.{Accept}
use Rattle.mt_base.specs.declared.command.Entry.{Entry}
use Rattle.mt_base.specs.declared.command.Refusal.{Refusal}
use Rattle.mt_base.specs.declared.hit.Hit.{Hit}
use Rattle.mt_base.specs.Decision.{HasHits, IsDecided}
use Rattle.mt_base.specs.Picture.{State}
use Rattle.mt_base.specs.StrikeOut.{handled_by, without}
use Rattle.mt_base.specs.Tables.{Setup}
use Rattle.mt_law.proofs.Bare.{judge_bare}
use Rattle.mt_law.proofs.Hits.{hits_bare}

hits_same : (setup : Setup) (call : List ℕ) (s : State) (c : Command) (hits : List Hit) → HasHits setup s c hits ↔ HasHits setup (without call s) c hits
hits_same setup call s (Accept own clearance eff probed) hits = hits_bare setup call s s.version own clearance eff hits
hits_same setup call s c hits = ((λ h. h), (λ h. h))

pub decided_same : (setup : Setup) (call : List ℕ) (s : State) (who : ℕ) (c : Command) (r : Result Entry Refusal) → handled_by c ≢ Some call
    → IsDecided setup s who c r ↔ IsDecided setup (without call s) who c r
decided_same setup call s who c (Ok e) apart =
    let same = judge_bare setup call s who c apart in
    ((λ d. (same ∙ d.0, (hits_same setup call s c []).0 d.1)), (λ d. (sym same ∙ d.0, (hits_same setup call s c []).1 d.1)))
decided_same setup call s who c (Err refusal) apart =
    let same = judge_bare setup call s who c apart in (
      (λ d. ⊎_elim (λ is. inl (same ∙ is))
          (λ stale. inr (record {
            entry = stale.entry;
            passed = same ∙ stale.passed;
            first = stale.first;
            others = stale.others;
            hits = (hits_same setup call s c (stale.first ∷ stale.others)).0 stale.hits;
            refusal_is = stale.refusal_is;
          })) d),
      (λ d. ⊎_elim (λ is. inl (sym same ∙ is))
          (λ stale. inr (record {
            entry = stale.entry;
            passed = sym same ∙ stale.passed;
            first = stale.first;
            others = stale.others;
            hits = (hits_same setup call s c (stale.first ∷ stale.others)).1 stale.hits;
            refusal_is = stale.refusal_is;
          })) d),
    )
