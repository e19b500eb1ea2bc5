use Rattle.std.proofs.Common.{arith}
use Rattle.std.proofs.lemmas.Str.Pattern.{split_once_first}
use Rattle.mt_args.proofs.Parts.{parts_are}
use Rattle.mt_args.proofs.command_option.parts.Goals as goal

pub returns : goal.returns
returns c = parts_are c.args.word.now c.split_once.result (split_once_first 61 c.args.word.now c.split_once.result c.split_once.ensures.cases (omega arith))
