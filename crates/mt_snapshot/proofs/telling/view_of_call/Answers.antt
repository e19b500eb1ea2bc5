use Rattle.std.proofs.Common.{Some, ap, ◌∙◌}
use Rattle.std.specs.Arc.{arc_value}
use Rattle.mt_snapshot.proofs.Told.{view_is}
use Rattle.mt_snapshot.proofs.telling.view_of_call.Goals as goal

pub returns : goal.returns
returns c =
    let shot = c.args.snapshot.now in
    ap Some c.view_of_path.ensures
    ∙ rw (c.deref.ensures, c.version-version.ensures.version, c.unwrap_or-k.ensures, c.now.ensures.now)
    (view_is shot c.args.sec c.in_ok-slot.slot c.in_ok-flight.flight.now (arc_value c.in_ok-strand.strand.now) _ c.version-version.ensures.kept
    c.in_ok-flight.ensures (λ f is. (let own = rw is at c.in_ok-strand.ensures in cc)) c.in_ok-slot.ensures.flight)
