use Rattle.std.proofs.lemmas.Result.{IfOk-weaker}
use Rattle.mt_names.proofs.Placing.{in_stead}
use Rattle.mt_names.proofs.renaming.exchanged.Goals as goal

pub returns : goal.returns
returns c = IfOk-weaker c.with-2.result _ _
    (λ after put. in_stead c.args.names.now c.in_ok-without.field-0 after c.args.slot c.args.old c.args.new c.in_ok-without.ensures put) c.with-2.ensures
