use Rattle.std.proofs.Common.{sym, ◌∙◌}
use Rattle.std.proofs.lemmas.Result.{IfOk-weaker}
use Rattle.mt_probe.proofs.Boxes.{set_again}
use Rattle.mt_probe.proofs.placing.with_made.Goals as goal

pub returns-then-stays-clause-table : goal.returns-then-stays-clause-table
returns-then-stays-clause-table c = IfOk-weaker c.share.result _ _
    (λ after is. is ∙ sym (set_again c.args.table.now c.args.item _ c.requires.inside (c.requires.kept c.if-stays.true))) c.share.ensures
