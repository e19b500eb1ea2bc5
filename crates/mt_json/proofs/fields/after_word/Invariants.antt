-- What is left are later words: of the others none is the key.
use Rattle.std.proofs.Common.{◌≡◌, length}
use Rattle.mt_json.specs.Keys.{is_allowed}
use Rattle.mt_json.specs.Private.Keys.{AreAmong}
use Rattle.mt_json.proofs.fields.after_word.Given as goal

abbrev pub invariant-loop-left : goal.invariant-loop-left
invariant-loop-left l = (is_allowed l.words l.key ≡ is_allowed l.left l.key) × AreAmong l.left l.words

abbrev pub decreases-loop-left : goal.decreases-loop-left
decreases-loop-left l = length l.left
