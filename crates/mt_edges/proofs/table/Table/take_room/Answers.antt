use Rattle.std.proofs.Common.{refl, arith}
use Rattle.mt_edges.proofs.Growth.{kept_longer}
use Rattle.mt_edges.proofs.table.Table.take_room.Goals as goal

pub returns-in_err-room-clause-kept : goal.returns-in_err-room-clause-kept
returns-in_err-room-clause-kept c =
    kept_longer _ _ _ c.args.self.now.free.items _ _ _ _ _ _ c.requires.kept c.room.ensures.longer (record { longer = omega arith; kept = λ k below. refl })

pub returns-in_err-lengthen-clause-kept : goal.returns-in_err-lengthen-clause-kept
returns-in_err-lengthen-clause-kept c = kept_longer _ _ _ _ _ _ _ _ _ _ c.requires.kept c.room.ensures.longer c.lengthen.ensures.kept

pub returns-in_err-reserve-clause-kept : goal.returns-in_err-reserve-clause-kept
returns-in_err-reserve-clause-kept c = rw c.reserve.ensures.items (kept_longer _ _ _ _ _ _ _ _ _ _ c.requires.kept c.room.ensures.longer c.lengthen.ensures.kept)

pub returns-clause-kept : goal.returns-clause-kept
returns-clause-kept c = rw c.reserve.ensures.items (kept_longer _ _ _ _ _ _ _ _ _ _ c.requires.kept c.room.ensures.longer c.lengthen.ensures.kept)
