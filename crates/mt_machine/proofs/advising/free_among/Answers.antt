use Rattle.std.proofs.Common.{true, false}
use Rattle.mt_base.specs.Tables.{Setup, setup_with}
use Rattle.mt_machine.proofs.Advised.{tried_more}
use Rattle.mt_machine.proofs.advising.free_among.Goals as goal
use Rattle.mt_machine.proofs.advising.free_among.Goals.{then-branch+in_ok-push, else-branch}

pub loop-clearance-preserved : goal.loop-clearance-preserved
loop-clearance-preserved g c =
    let setup : Setup = setup_with c.args.rules.now c.args.tables.now in
    let i = c.loop-clearance.clearance-index in
    elim c.if-branch.branch [
      | then-branch+in_ok-push w ↦ rw (w.free-is, w.in_ok-push.ensures.ok)
          (tried_more setup c.args.plain.now c.args.call c.args.tried.now c.loop-clearance.free i c.clearance-item.result true c.loop-clearance-test.true c.clearance-item.is
          c.loop-clearance.invariant (rw w.if-branch.true at c.in_ok-is_free.ensures))
      | else-branch w ↦ rw w.free-is
          (tried_more setup c.args.plain.now c.args.call c.args.tried.now c.loop-clearance.free i c.clearance-item.result false c.loop-clearance-test.true c.clearance-item.is
          c.loop-clearance.invariant (rw w.if-branch.false at c.in_ok-is_free.ensures))
    ]
