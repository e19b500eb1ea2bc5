use Rattle.std.proofs.Common.{subst}
use Rattle.std.proofs.lemmas.Result.{IfOk-weaker}
use Rattle.std.specs.Arc.{arc_value}
use Rattle.mt_probe.specs.Private.Boxed.{HoldsSlices}
use Rattle.mt_probe.specs.Shot.{Shot}
use Rattle.mt_probe.proofs.Boxes.{met_items}
use Rattle.mt_probe.proofs.snapshot.Snapshot.meeting_by.Goals as goal

pub returns : goal.returns
returns c =
    let shot = c.args.self.now in
    let table = (arc_value c.self.inside.body).table in
    let holds = subst (λ (s : Shot). HoldsSlices s.setup.rules s.slots table) c.self.view_is c.self.invariant.holds in
    IfOk-weaker c.meeting.result _ _ (λ list met.
    met_items shot (arc_value c.args.slices.now) table list.items holds
    (rw (c.in_ok-mine.ensures, c.in_ok-slices.ensures, c.rules.ensures.rules, c.deref-2.ensures) at met)) c.meeting.ensures
