use Rattle.mt_base.proofs.NameOrder.{number_same}
use Rattle.mt_base.proofs.name.NamePartialEq.eq.Goals as goal

pub returns : goal.returns
returns c =
    let mine = c.number.ensures in
    let other = c.number-2.ensures in
    rw (mine.number, other.number) (number_same c.args.self.now c.args.other.now mine.named other.named)
