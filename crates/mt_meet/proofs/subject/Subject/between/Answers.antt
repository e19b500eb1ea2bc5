use Rattle.std.proofs.Common.{refl}
use Rattle.mt_meet.proofs.Parts.{between}
use Rattle.mt_meet.proofs.subject.Subject.between.Goals as goal

pub returns : goal.returns
returns c = λ k have one. rw (c.from.ensures.from, c.slices-slices.ensures.slices) (between c.args.self.now.sliced k c.args.parts c.windows_a_part-each.result _ _
    have c.ranges.parts.fits one (rw (← c.slices-slices.ensures.slices) c.windows_a_part-each.ensures.is) refl refl)
