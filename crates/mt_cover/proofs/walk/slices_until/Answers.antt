use Rattle.std.proofs.Common.{◌≡◌, subst, sym, arith}
use Rattle.std.proofs.lemmas.Result.{IfOk-weaker}
use Rattle.mt_cover.specs.Sliced.{AreFrontUntil, Sliced, slices_of}
use Rattle.mt_cover.specs.Private.Walk.{front_of}
use Rattle.mt_cover.proofs.Fronts.{front_until}
use Rattle.mt_cover.proofs.walk.slices_until.Goals as goal

pub returns : goal.returns
returns c =
    let rules = c.args.rules.now in
    let t = c.args.strand.now in
    let front = front_until rules t c.args.to c.max-until.result c.div_ceil.result
    (omega (arith, c.max-until.ensures, c.min.ensures, c.end.ensures.end, c.start-start.ensures)) (omega (arith, c.div_ceil.ensures, c.start-start.ensures)) in
    IfOk-weaker c.front.result (λ (s : Sliced). s ≡ front_of rules t c.div_ceil.result) (AreFrontUntil (slices_of rules t) c.args.to)
    (λ s is. subst (AreFrontUntil (slices_of rules t) c.args.to) (sym is) front) c.front.ensures
