use Rattle.mt_probe.proofs.Indexing.{opening_index}
use Rattle.mt_probe.proofs.index.Index.make.Goals as goal

pub returns : goal.returns
returns c = λ n. rw (c.in_ok-new.ensures.ok, c.make.ensures) (opening_index n)
