use Rattle.std.proofs.Common.{◌+◌, ◌<◌, ◌^◌, arith}
use Rattle.std.proofs.lemmas.Result.{on_ok_weaker}
use Rattle.mt_read.specs.declared.request.Request.TheVariants.{Take}
use Rattle.mt_load.specs.Private.Load.{probes_of}
use Rattle.mt_load.proofs.Numbers.{advice_named, quiet_asked}
use Rattle.mt_load.proofs.driving.advise.Goals as goal

pub take_advice-requires-after_bounds : goal.take_advice-requires-after_bounds
take_advice-requires-after_bounds g c κs within =
    let taken = quiet_asked c.args.script.now c.ask.new.script 1 1 Take tt c.in_ok-ask.ensures in
    let small : probes_of c.ask.new.script 1 + 16 < 2 ^ 63 = omega (arith, taken, c.requires) in
    advice_named c.ask.new.script c.serve.new.script 1 c.args.call c.in_ok-reply.reply small c.in_ok-reply.ensures

pub returns : goal.returns
returns g c = on_ok_weaker c.take_advice.result (λ accepts. record {
  taken = c.ask.new.script;
  takes = c.in_ok-ask.ensures;
  advised = c.serve.new.script;
  advice = c.in_ok-reply.reply;
  asks = c.in_ok-reply.ensures;
  accepts = accepts;
}) c.take_advice.ensures
