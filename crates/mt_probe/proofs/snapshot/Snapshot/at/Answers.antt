use Rattle.std.proofs.Common.{◌+◌}
use Rattle.std.specs.Arc.{arc_value}
use Rattle.mt_probe.specs.Private.Body.{shot_of}
use Rattle.mt_probe.specs.Shot.{Shot}
use Rattle.mt_probe.proofs.Placed.{moved_sound}
use Rattle.mt_probe.proofs.snapshot.Snapshot.at.Goals as goal

pub changed-requires-clause-kept : goal.changed-requires-clause-kept
changed-requires-clause-kept c =
    let shot : Shot = shot_of (arc_value c.self.inside.body) in
    rw (c.in_ok-share.ensures, c.in_ok-share-2.ensures, c.in_ok-share-3.ensures, c.deref-body.ensures) (record {
      sound = moved_sound shot (shot.version + 1) c.args.now c.self.invariant.sound c.requires.early;
      holds = c.self.invariant.holds;
      indexed = c.self.invariant.indexed;
    })
