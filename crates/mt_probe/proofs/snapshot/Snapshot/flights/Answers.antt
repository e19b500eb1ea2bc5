use Rattle.std.proofs.Common.{◌≡◌, ◌∙◌, length, sym, subst, ap}
use Rattle.std.specs.Arc.{arc_value}
use Rattle.mt_probe.specs.declared.snapshot.Body.{Body}
use Rattle.mt_probe.specs.Shot.{Shot, records_in}
use Rattle.mt_probe.proofs.Indexing.{length_records}
use Rattle.mt_probe.proofs.snapshot.Snapshot.flights.Goals as goal

pub returns : goal.returns
returns c =
    subst (λ (s : Shot). c.held.result ≡ length (records_in s.slots)) c.self.view_is
    (c.held.ensures ∙ ap (λ (b : Body). b.index.held) c.deref.ensures ∙ c.self.invariant.indexed.held ∙ sym (length_records (arc_value c.self.inside.body).slots))
