use Rattle.std.proofs.Common.{sym, ap}
use Rattle.json.proofs.OnLiterals.{json_on_literals}
use Rattle.serde_json.specs.Data.{object}
use Rattle.serde_json.specs.Written.{compact_text}
use Rattle.mt_base.specs.declared.command.Command.TheVariants.{Accept}
use Rattle.mt_write.specs.Entry.{entry_members}
use Rattle.mt_write.proofs.Putting.{puts_is}
use Rattle.mt_write.proofs.entry.put_accept.Goals as goal

pub returns-in-Level : goal.returns-in-Level
unfolding json_on_literals
returns-in-Level c =
    puts_is c.put_object.result c.args.out.now c.put_object.new.out _ _
    (ap (λ clearance. compact_text (object (entry_members c.args.who (Accept c.args.call.now clearance c.args.eff c.args.probed)))) (sym c.in-Level.is)) c.put_object.ensures

pub returns-in-Direct : goal.returns-in-Direct
unfolding json_on_literals
returns-in-Direct c =
    puts_is c.put_object-in-Direct.result c.args.out.now c.put_object-in-Direct.new.out _ _
    (ap (λ clearance. compact_text (object (entry_members c.args.who (Accept c.args.call.now clearance c.args.eff c.args.probed)))) (sym c.in-Direct.is)) c.put_object-in-Direct.ensures
