-- A plain value that is put in keeps the values plain.
use Rattle.std.proofs.Common.{subst, sym}
use Rattle.serde_json.specs.View.{view, members_view}
use Rattle.mt_json.specs.Line.{ArePlain}
use Rattle.mt_json.proofs.Plain.{plain-put}
use Rattle.mt_json.proofs.builder.Builder.value.Goals as goal

pub returns-clause-plain : goal.returns-clause-plain
returns-clause-plain c p h =
    subst ArePlain (sym c.in_ok-put.ensures.ok) (plain-put c.args.key.now (view c.args.value) (members_view c.args.self.now.map.entries) p h)
