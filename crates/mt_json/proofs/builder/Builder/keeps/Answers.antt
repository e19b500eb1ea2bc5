-- The keys of the map ascend, as its length says.
use Rattle.mt_json.proofs.KeysShown.{ordered_shown}
use Rattle.mt_json.proofs.builder.Builder.keeps.Goals as goal

pub returns : goal.returns
returns c = ordered_shown c.args.self.now.map.entries c.len.ensures.ordered
