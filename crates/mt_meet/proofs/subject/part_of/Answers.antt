use Rattle.std.proofs.Common.{refl}
use Rattle.mt_meet.specs.Searching.{windows_a_part}
use Rattle.mt_meet.proofs.Parts.{few_parts, shifted_bit}
use Rattle.mt_meet.proofs.subject.part_of.Goals as goal

pub returns : goal.returns
returns c = rw (c.from.ensures.from, c.windows_a_part.ensures.is)
    (shifted_bit _ (few_parts c.args.slices.now c.args.window (windows_a_part c.args.slices.now) c.requires refl).1)
