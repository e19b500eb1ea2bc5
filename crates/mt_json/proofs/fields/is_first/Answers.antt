-- A key that is the first word has its bytes, no space among them, and a space or nothing after them.
use Rattle.std.proofs.Common.{arith, sym}
use Rattle.mt_json.proofs.Words.{is_first, not_first}
use Rattle.mt_json.proofs.fields.is_first.Goals as goal
use Rattle.mt_json.proofs.fields.is_first.Goals.{else-words-end-2-via-then-words-end-2+else-words-end-ne32, else-words-end-2-via-else-words-end-2, then-byte-eq32-via-then-byte-eq32, then-byte-eq32-via-else-byte-eq32+then-byte-key}

pub returns-then-words-end : goal.returns-then-words-end
returns-then-words-end c = sym (not_first c.args.words.now c.args.key.now (λ h. omega (arith, h.fits)))

pub returns-then-words-end-ne32 : goal.returns-then-words-end-ne32
returns-then-words-end-ne32 c = sym (not_first c.args.words.now c.args.key.now (λ h. let space = h.ends c.if-words-end-2.true in grind arith))

pub returns-then-byte-eq32 : goal.returns-then-byte-eq32
returns-then-byte-eq32 c =
    sym (not_first c.args.words.now c.args.key.now (λ h.
    let same = h.same c.loop-at.at c.loop-at-test.true in
    elim c.then-byte-eq32.branch [
      | then-byte-eq32-via-then-byte-eq32 w ↦ let other = same.1 in grind arith
      | then-byte-eq32-via-else-byte-eq32+then-byte-key w ↦ absurd (w.if-byte-key.true same.0)
    ]))

pub returns : goal.returns
returns c =
    sym (is_first c.args.words.now c.args.key.now (record {
      fits = c.if-words-end.false;
      same = λ i l. c.loop-at.invariant.1 i (omega arith);
      ends = λ l. elim c.else-words-end-2.branch [
        | else-words-end-2-via-then-words-end-2+else-words-end-ne32 w ↦ grind arith
        | else-words-end-2-via-else-words-end-2 w ↦ absurd (omega arith)
      ];
    }))
