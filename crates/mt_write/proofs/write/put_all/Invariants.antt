use Rattle.std.proofs.Common.{◌≡◌, ◌≤◌, ◌+◌, ◌++◌, length, drop, vec_len, vec_capacity}
use Rattle.mt_write.specs.Private.Joined.{texts_joined}
use Rattle.mt_write.proofs.write.put_all.Given as goal

abbrev pub invariant-loop-piece : goal.invariant-loop-piece
invariant-loop-piece l = record {
  text : l.initial.out.items ++ texts_joined l.pieces ≡ l.out.items ++ texts_joined (drop l.piece-index l.pieces);
  len : vec_len l.initial.out + length (texts_joined l.pieces) ≡ vec_len l.out + length (texts_joined (drop l.piece-index l.pieces));
  room : vec_capacity l.initial.out ≤ vec_capacity l.out;
}
