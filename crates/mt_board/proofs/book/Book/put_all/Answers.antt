use Rattle.std.proofs.Common.{◌∙◌, ap, sym}
use Rattle.mt_board.specs.Book.{with_probe}
use Rattle.mt_board.proofs.Books.{put_more}
use Rattle.mt_board.proofs.book.Book.put_all.Goals as goal

pub loop-probe-preserved : goal.loop-probe-preserved
loop-probe-preserved g c =
    c.put.ensures.kept ∙ ap (λ b. with_probe b c.in-Some.probe) c.loop-probe.invariant
    ∙ sym (put_more c.args.self.now c.loop-probe.yielded c.in-Some.probe)
