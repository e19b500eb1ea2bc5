use Rattle.std.proofs.Common.{decimal, arith, length-append}
use Rattle.mt_write.proofs.Lengths.{second_length}
use Rattle.mt_write.proofs.short_text.ShortText.prepend_number.Goals as goal

pub write_digits-self-inside-requires : goal.write_digits-self-inside-requires
write_digits-self-inside-requires c =
    let room = rw c.self.view_is at c.self.invariant in
    (rw c.from.ensures (omega (arith, c.requires, room, second_length c.args.number c.ranges.number.fits)), omega (arith, c.self.told, room))

pub returns-clause-size : goal.returns-clause-size
returns-clause-size c =
    let w = c.write_digits-self-inside in
    rw (w.ensures.written, c.from.ensures, c.self.view_is)
    (omega (arith, second_length c.args.number c.ranges.number.fits, length-append (decimal c.args.number) c.args.self.now))
