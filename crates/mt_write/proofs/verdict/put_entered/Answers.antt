use Rattle.std.proofs.Common.{◌∙◌, sym, ap}
use Rattle.json.proofs.OnLiterals.{json_on_literals}
use Rattle.mt_write.specs.declared.reply.Reply.TheVariants as reply
use Rattle.mt_write.specs.Reply.{reply_text}
use Rattle.mt_write.proofs.Putting.{puts_is}
use Rattle.mt_write.proofs.ValueTexts.{judged_text}
use Rattle.mt_write.proofs.verdict.put_entered.Goals as goal

pub returns-in-None : goal.returns-in-None
unfolding json_on_literals
returns-in-None c =
    puts_is c.put_versioned.result c.args.out.now c.put_versioned.new.out _ _
    (ap (λ verdict. reply_text (reply.Entered (record { version = c.args.entered.now.version; verdict = verdict }))) (sym c.in-None.is)) c.put_versioned.ensures

pub returns-in-Some : goal.returns-in-Some
returns-in-Some c =
    puts_is c.put_judged.result c.args.out.now c.put_judged.new.out _ _
    (judged_text c.args.entered.now.version c.in-Some.verdict
    ∙ ap (λ verdict. reply_text (reply.Entered (record { version = c.args.entered.now.version; verdict = verdict }))) (sym c.in-Some.is)) c.put_judged.ensures
