use Rattle.mt_io.proofs.Pieces.{moves_to_break, moves_all}
use Rattle.mt_io.proofs.ahead.Ahead.move_piece.Goals as goal

-- src/ahead.rt:115:5
pub returns-in-Some : goal.returns-in-Some
returns-in-Some c =
    let place = rw c.bytes.ensures at c.in-Some.ensures in
    let adds = rw c.bytes-in-Some.ensures at c.add.ensures in
    rw c.skip.ensures (moves_to_break c.args.self.now c.in-Some.place _ _ _ _ place.0 place.1 place.2 adds)

pub returns-in-None : goal.returns-in-None
returns-in-None c =
    let none = rw c.bytes.ensures at c.in-None.ensures in
    let adds = rw c.bytes-in-None.ensures at c.add-in-None.ensures in
    let gone = rw c.bytes-in-None-2.ensures at c.skip-in-None.ensures in
    rw gone (moves_all c.args.self.now _ _ _ _ none adds)
