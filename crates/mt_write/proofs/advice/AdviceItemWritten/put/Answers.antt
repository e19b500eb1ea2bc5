use Rattle.std.proofs.Common.{List, ℕ, sym, ap}
use Rattle.json.proofs.OnLiterals.{json_on_literals}
use Rattle.serde_json.specs.Data.{object}
use Rattle.serde_json.specs.Written.{compact_text}
use Rattle.mt_base.specs.declared.clearance.Clearance.{Clearance}
use Rattle.mt_write.specs.Reply.{advised_members}
use Rattle.mt_write.proofs.Putting.{puts_is}
use Rattle.mt_write.proofs.advice.AdviceItemWritten.put.Goals as goal

abbrev text_of : ℕ → Clearance → List ℕ
text_of probe clearance = compact_text (object (advised_members clearance probe))

pub returns-in-Level : goal.returns-in-Level
unfolding json_on_literals
returns-in-Level c = puts_is c.put_object.result c.args.out.now c.put_object.new.out _ _ (ap (text_of c.args.self.now.probe) (sym c.in-Level.is)) c.put_object.ensures

pub returns-in-Direct : goal.returns-in-Direct
unfolding json_on_literals
returns-in-Direct c = puts_is c.put_object-in-Direct.result c.args.out.now c.put_object-in-Direct.new.out _ _ (ap (text_of c.args.self.now.probe) (sym c.in-Direct.is)) c.put_object-in-Direct.ensures
