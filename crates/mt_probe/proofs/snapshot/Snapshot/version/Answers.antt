use Rattle.std.proofs.Common.{◌≤◌, subst}
use Rattle.std.specs.Arc.{arc_value}
use Rattle.mt_change.specs.Sound.{IsSoundState}
use Rattle.mt_probe.specs.Private.Body.{shot_of}
use Rattle.mt_probe.specs.Shot.{Shot, state_in_shot}
use Rattle.mt_probe.proofs.Whole.{sound_state}
use Rattle.mt_probe.proofs.snapshot.Snapshot.version.Goals as goal

pub returns-clause-sound : goal.returns-clause-sound
returns-clause-sound c = subst (λ (s : Shot). s.version ≤ 4194304 → IsSoundState s.setup (state_in_shot s)) c.self.view_is
    (sound_state (shot_of (arc_value c.self.inside.body)) c.self.invariant.sound)
