-- The least key that isn't allowed, of the members so far; what stands after the word met last are words of the allowed ones.
use Rattle.std.proofs.Common.{◌≡◌, option_map, take}
use Rattle.mt_json.specs.Keys.{other_key}
use Rattle.mt_json.specs.Private.Keys.{AreAmong}
use Rattle.mt_json.specs.View.{members_view}
use Rattle.mt_json.proofs.fields.Fields.least_other.Given as goal

abbrev pub invariant-loop-member : goal.invariant-loop-member
invariant-loop-member l = (option_map (λ s. s.now) l.least ≡ other_key l.keys (members_view (take l.member-index l.self.list.now))) × AreAmong l.rest l.words
