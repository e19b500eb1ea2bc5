use Rattle.std.proofs.Common.{arith}
use Rattle.mt_args.proofs.Spelling.{no_value, one_word, two_words}
use Rattle.mt_args.proofs.command_option.option_at.Goals as goal

pub returns-in-Some : goal.returns-in-Some
returns-in-Some c = (omega arith, omega arith, one_word c.args.words.now c.args.at c.word-word.result.now _ _ c.word-word.ensures c.in-Some.ensures.0 c.in-Some.ensures.1)

pub returns-then-count-at-lt2 : goal.returns-then-count-at-lt2
returns-then-count-at-lt2 c = no_value c.args.words.now c.args.at c.word-word.result.now c.word-word.ensures c.in_default.ensures (omega (arith, c.count-count.ensures))

pub returns : goal.returns
returns c = (omega arith, omega (arith, c.count-count.ensures), two_words c.args.words.now c.args.at c.word-word.result.now c.word.result.now c.word-word.ensures c.word.ensures c.in_default.ensures)
