use Rattle.std.proofs.Common.{◌≡◌, ◌≤◌, ◌+◌, ◌++◌, false, length, drop, vec_len, vec_capacity}
use Rattle.mt_write.specs.Private.Flags.{flags_text}
use Rattle.mt_write.proofs.verdict.put_flags.Given as goal

abbrev pub invariant-loop-name : goal.invariant-loop-name
invariant-loop-name l = record {
  text : l.initial.out.items ++ flags_text false l.flags ≡ l.out.items ++ flags_text l.later (drop l.name-index l.flags);
  len : vec_len l.initial.out + length (flags_text false l.flags) ≡ vec_len l.out + length (flags_text l.later (drop l.name-index l.flags));
  room : vec_capacity l.initial.out ≤ vec_capacity l.out;
}
