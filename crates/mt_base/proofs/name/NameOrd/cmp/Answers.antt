use Rattle.std.proofs.Common.{arith}
use Rattle.std.specs.declared.cmp.Ordering.TheVariants.{Less, Equal, Greater}
use Rattle.mt_base.proofs.NameOrder.{order_is}
use Rattle.mt_base.proofs.name.NameOrd.cmp.Goals as goal

pub returns-then-mine-other : goal.returns-then-mine-other
returns-then-mine-other c =
    let mine = c.number-mine.ensures in
    let other = c.number-other.ensures in
    order_is c.args.self.now c.args.other.now Less mine.named other.named (rw (← mine.number, ← other.number) c.if-mine-other.true)

pub returns-then-mine-other-2 : goal.returns-then-mine-other-2
returns-then-mine-other-2 c =
    let mine = c.number-mine.ensures in
    let other = c.number-other.ensures in
    order_is c.args.self.now c.args.other.now Equal mine.named other.named (rw (← mine.number, ← other.number) c.if-mine-other-2.true)

pub returns-else-mine-other-2 : goal.returns-else-mine-other-2
returns-else-mine-other-2 c =
    let mine = c.number-mine.ensures in
    let other = c.number-other.ensures in
    let least = c.if-mine-other.false in
    let apart = c.if-mine-other-2.false in
    order_is c.args.self.now c.args.other.now Greater mine.named other.named (rw (← mine.number, ← other.number) (omega arith))
