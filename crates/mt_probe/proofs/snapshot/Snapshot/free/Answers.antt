use Rattle.std.proofs.Common.{subst}
use Rattle.mt_probe.specs.declared.snapshot.Body.{Body}
use Rattle.mt_probe.specs.Shot.{IsFreeIn, Shot}
use Rattle.mt_probe.proofs.Indexing.{free_in}
use Rattle.mt_probe.proofs.snapshot.Snapshot.free.Goals as goal

pub returns : goal.returns
returns c =
    subst (λ (s : Shot). IsFreeIn s.slots c.free.result) c.self.view_is
    (subst (λ (b : Body). IsFreeIn b.slots c.free.result) c.deref-2.ensures (free_in c.deref-2.result.now.slots c.free.result c.free.ensures))
