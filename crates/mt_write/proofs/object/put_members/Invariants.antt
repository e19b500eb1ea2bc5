use Rattle.std.proofs.Common.{◌≡◌, ◌≤◌, ◌+◌, ◌++◌, length, drop, vec_len, vec_capacity}
use Rattle.mt_write.specs.Private.Object.{ended_text}
use Rattle.mt_write.proofs.object.put_members.Given as goal

abbrev pub invariant-loop-member : goal.invariant-loop-member
invariant-loop-member l = record {
  text : l.initial.out.items ++ ended_text l.end l.members ≡ l.out.items ++ ended_text l.end (drop l.member-index l.members);
  len : vec_len l.initial.out + length (ended_text l.end l.members) ≡ vec_len l.out + length (ended_text l.end (drop l.member-index l.members));
  room : vec_capacity l.initial.out ≤ vec_capacity l.out;
}
