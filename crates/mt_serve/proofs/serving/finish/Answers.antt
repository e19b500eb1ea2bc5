use Rattle.mt_serve.proofs.serving.finish.Goals.{in-Ok, in-Err}
use Rattle.mt_serve.proofs.serving.finish.Goals as goal

pub invariant_of-result : goal.invariant_of-result
invariant_of-result g c = elim c.match-state.branch [
  | in-Ok w ↦
      let same = rw w.in-Ok.is at c.sitting.invariant in
      rw (w.back-is, ← same.0, ← same.1, ← same.2) w.join-back.ensures
  | in-Err w ↦
      let served = rw w.in-Err.is at c.sitting.invariant in
      rw w.back-is served
]

pub returns : goal.returns
returns g c = c.sitting.view_is
