use Rattle.std.proofs.Common.{◌+◌, arith}
use Rattle.mt_history.proofs.EntriesPut.{put_next, put_whole, put_wrong}
use Rattle.mt_history.proofs.rebuilding.put_all.Goals as goal

pub loop-entry-preserved : goal.loop-entry-preserved
loop-entry-preserved c =
    put_next c.args.picture.now.setup c.args.entries.now c.loop-entry.entry-index (c.loop-entry.entry-index + 1) c.entry-item.result c.loop-entry.picture
    c.put.new.picture (omega arith) c.loop-entry-test.true c.entry-item.is c.loop-entry.invariant c.in-Ok.ensures.ok c.in-Ok.ensures.replayable

pub returns-in-Err-clause-wrong : goal.returns-in-Err-clause-wrong
returns-in-Err-clause-wrong c =
    put_wrong c.args.picture.now.setup c.args.entries.now c.loop-entry.entry-index c.entry-item.result c.loop-entry.picture c.in-Err.wrong c.loop-entry-test.true
    c.entry-item.is c.loop-entry.invariant c.in-Err.ensures.wrong

pub returns-clause-replayable : goal.returns-clause-replayable
returns-clause-replayable c =
    (put_whole c.args.picture.now.setup c.args.entries.now c.loop-entry.entry-index c.loop-entry.picture c.loop-entry-test.false c.loop-entry.invariant).1
