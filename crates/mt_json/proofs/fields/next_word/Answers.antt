-- The first space is the first byte that is one.
use Rattle.std.proofs.Common.{◌+◌, arith, sym, ap, ◌∙◌, drop}
use Rattle.std.proofs.lemmas.List.{take_all, drop_all, length-drop}
use Rattle.std.proofs.lemmas.List.Sums.{position_or_len_is}
use Rattle.mt_json.proofs.Words.{is_space}
use Rattle.mt_json.proofs.fields.next_word.Goals as goal

pub returns-then-words-at-eq32 : goal.returns-then-words-at-eq32
returns-then-words-at-eq32 c =
    let words = c.args.words.now in
    let at = c.loop-at.at in
    take_all _ (drop (at + 1) words) (omega (arith, length-drop (at + 1) words))
    ∙ sym (ap (λ n. drop (n + 1) words) (position_or_len_is is_space words at 0 c.loop-at.invariant.0 c.loop-at.invariant.1 (λ _. grind arith)))

pub returns : goal.returns
returns c =
    let words = c.args.words.now in
    let at = c.loop-at.at in
    sym (ap (λ n. drop (n + 1) words) (position_or_len_is is_space words at 0 c.loop-at.invariant.0 c.loop-at.invariant.1 (λ l. absurd (omega arith))) ∙ drop_all (at + 1) words (omega arith))
