use Rattle.std.proofs.lemmas.Result.{IfOk-from_err}
use Rattle.std.proofs.lemmas.List.{length-map}
use Rattle.mt_predict.proofs.Sound.{route_short}
use Rattle.mt_predict.proofs.predictor.fly.Goals as goal

pub fly_route-requires-clause-short : goal.fly_route-requires-clause-short
fly_route-requires-clause-short c =
    let short = route_short c.args.tables.now c.args.course.now.route c.requires.sound.route in
    rw (c.deref.ensures.value, c.in_ok-points.ensures.points, length-map) short

pub returns-in_err-points : goal.returns-in_err-points
returns-in_err-points c = IfOk-from_err _ _ c.from_residual.ensures.0
