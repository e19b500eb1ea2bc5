-- No member after those that are left has the key.
use Rattle.std.proofs.Common.{◌≡◌, ◌≤◌, length, take}
use Rattle.serde_json.specs.Find.{get_member}
use Rattle.mt_json.specs.View.{members_view}
use Rattle.mt_json.proofs.fields.Fields.get.Given as goal

abbrev pub invariant-loop-left : goal.invariant-loop-left
invariant-loop-left l = (get_member l.key (members_view l.self.list.now) ≡ get_member l.key (members_view (take l.left l.self.list.now))) × (l.left ≤ length l.self.list.now)

abbrev pub decreases-loop-left : goal.decreases-loop-left
decreases-loop-left l = l.left
