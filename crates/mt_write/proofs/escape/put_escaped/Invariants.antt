use Rattle.std.proofs.Common.{◌≡◌, ◌≤◌, ◌+◌, ◌++◌, length, drop, vec_len, vec_capacity}
use Rattle.json.specs.Print.{escape}
use Rattle.mt_write.proofs.escape.put_escaped.Given as goal

abbrev pub invariant-loop-byte : goal.invariant-loop-byte
invariant-loop-byte l = record {
  text : l.initial.out.items ++ escape l.text ≡ l.out.items ++ escape (drop l.byte-index l.text);
  len : vec_len l.initial.out + length (escape l.text) ≡ vec_len l.out + length (escape (drop l.byte-index l.text));
  room : vec_capacity l.initial.out ≤ vec_capacity l.out;
}
