use Rattle.std.proofs.Common.{sym, ap, ◌∙◌}
use Rattle.json.proofs.OnLiterals.{json_on_literals}
use Rattle.mt_write.specs.declared.reply.Reply.TheVariants as reply
use Rattle.mt_write.specs.Reply.{reply_text}
use Rattle.mt_write.proofs.Putting.{puts_is}
use Rattle.mt_write.proofs.put_reply.put_reply.Goals as goal

pub returns-in-Taken : goal.returns-in-Taken
unfolding json_on_literals
returns-in-Taken c = puts_is c.put_versioned.result c.args.out.now c.put_versioned.new.out _ _ (ap reply_text (sym c.in-Taken.is)) c.put_versioned.ensures

pub returns-in-List : goal.returns-in-List
unfolding json_on_literals
returns-in-List c = puts_is c.put_at_version.result c.args.out.now c.put_at_version.new.out _ _ (ap (λ x. reply_text (reply.List x c.in-List.version)) c.items.ensures ∙ ap reply_text (sym c.in-List.is)) c.put_at_version.ensures

pub returns-in-Probe : goal.returns-in-Probe
unfolding json_on_literals
returns-in-Probe c = puts_is c.put_probe.result c.args.out.now c.put_probe.new.out _ _ (ap (λ x. reply_text (reply.Probe x c.in-Probe.eff c.in-Probe.probe c.in-Probe.version)) c.items-in-Probe.ensures ∙ ap reply_text (sym c.in-Probe.is)) c.put_probe.ensures

pub returns-in-Advice : goal.returns-in-Advice
unfolding json_on_literals
returns-in-Advice c = puts_is c.put_advice.result c.args.out.now c.put_advice.new.out _ _ (ap (λ x. reply_text (reply.Advice x c.in-Advice.call c.in-Advice.eff c.in-Advice.version)) c.items-in-Advice.ensures ∙ ap reply_text (sym c.in-Advice.is)) c.put_advice.ensures

pub returns-in-Due : goal.returns-in-Due
unfolding json_on_literals
returns-in-Due c = puts_is c.put_at_version-in-Due.result c.args.out.now c.put_at_version-in-Due.new.out _ _ (ap (λ x. reply_text (reply.Due x c.in-Due.version)) c.items-in-Due.ensures ∙ ap reply_text (sym c.in-Due.is)) c.put_at_version-in-Due.ensures

pub returns-in-Settled : goal.returns-in-Settled
unfolding json_on_literals
returns-in-Settled c = puts_is c.put_at_version-in-Settled.result c.args.out.now c.put_at_version-in-Settled.new.out _ _ (ap (λ x. reply_text (reply.Settled x c.in-Settled.version)) c.items-in-Settled.ensures ∙ ap reply_text (sym c.in-Settled.is)) c.put_at_version-in-Settled.ensures

pub returns-in-History : goal.returns-in-History
unfolding json_on_literals
returns-in-History c = puts_is c.put_at_version-in-History.result c.args.out.now c.put_at_version-in-History.new.out _ _ (ap (λ x. reply_text (reply.History x c.in-History.version)) c.items-in-History.ensures ∙ ap reply_text (sym c.in-History.is)) c.put_at_version-in-History.ensures

pub returns-in-Areas : goal.returns-in-Areas
unfolding json_on_literals
returns-in-Areas c = puts_is c.put_at_version-in-Areas.result c.args.out.now c.put_at_version-in-Areas.new.out _ _ (ap (λ x. reply_text (reply.Areas x c.in-Areas.version)) c.items-in-Areas.ensures ∙ ap reply_text (sym c.in-Areas.is)) c.put_at_version-in-Areas.ensures

pub returns-in-Form : goal.returns-in-Form
unfolding json_on_literals
returns-in-Form c = puts_is c.put_field.result c.args.out.now c.put_field.new.out _ _ (ap (λ x. reply_text (reply.Form x)) c.bytes.ensures ∙ ap reply_text (sym c.in-Form.is)) c.put_field.ensures

pub returns-in-Range : goal.returns-in-Range
unfolding json_on_literals
returns-in-Range c = puts_is c.put_field-in-Range.result c.args.out.now c.put_field-in-Range.new.out _ _ (ap (λ x. reply_text (reply.Range x)) c.bytes-in-Range.ensures ∙ ap reply_text (sym c.in-Range.is)) c.put_field-in-Range.ensures

pub returns-in-TakenFix : goal.returns-in-TakenFix
unfolding json_on_literals
returns-in-TakenFix c = puts_is c.put_taken.result c.args.out.now c.put_taken.new.out _ _ (ap reply_text (sym c.in-TakenFix.is)) c.put_taken.ensures

pub returns-in-TakenType : goal.returns-in-TakenType
unfolding json_on_literals
returns-in-TakenType c = puts_is c.put_taken-in-TakenType.result c.args.out.now c.put_taken-in-TakenType.new.out _ _ (ap reply_text (sym c.in-TakenType.is)) c.put_taken-in-TakenType.ensures

pub returns-in-Late : goal.returns-in-Late
unfolding json_on_literals
returns-in-Late c = puts_is c.put_versioned-in-Late.result c.args.out.now c.put_versioned-in-Late.new.out _ _ (ap reply_text (sym c.in-Late.is)) c.put_versioned-in-Late.ensures
