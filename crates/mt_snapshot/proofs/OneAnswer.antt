-- There is one advice on a snapshot.
use Rattle.std.proofs.Common.{◌≡◌, ◌∙◌, ℕ, List, map, refl, sym}
use Rattle.mt_base.specs.declared.clearance.Clearance.{Clearance}
use Rattle.mt_base.proofs.OneAdvice.{one_advice}
use Rattle.mt_board.specs.Probing.{free_probe}
use Rattle.mt_probe.specs.Hits.{Trial, told_of}
use Rattle.mt_probe.specs.Shot.{Shot, state_in_shot}
use Rattle.mt_snapshot.specs.Advised.{IsAdvisedOn}

told_alike : (call : List ℕ) (eff second version number : ℕ) (cs ds : List Clearance) → eff ≡ second → version ≡ number → cs ≡ ds
    → map (free_probe call eff version) cs ≡ map (free_probe call second number) ds
told_alike call eff second version number cs ds effs versions clearances = rw (effs, versions, clearances) refl

pub one_answer : (shot : Shot) (call : List ℕ) (eff version : ℕ) (ps : List Trial) (second number : ℕ) (qs : List Trial) → IsAdvisedOn shot call eff version ps
    → IsAdvisedOn shot call second number qs → map told_of ps ≡ map told_of qs
one_answer shot call eff version ps second number qs left right =
    left.told
    ∙ told_alike call eff second version number left.clearances right.clearances (left.eff_is ∙ sym right.eff_is) (left.version_is ∙ sym right.version_is)
    (one_advice shot.setup (state_in_shot shot) call left.clearances right.clearances left.advice.1 right.advice.1)
    ∙ sym right.told
