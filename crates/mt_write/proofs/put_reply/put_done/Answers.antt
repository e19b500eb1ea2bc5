use Rattle.std.proofs.Common.{sym, ap}
use Rattle.json.proofs.OnLiterals.{json_on_literals}
use Rattle.mt_write.specs.declared.reply.Reply.TheVariants.{Done}
use Rattle.mt_write.specs.Reply.{reply_text}
use Rattle.mt_write.proofs.Putting.{puts_is}
use Rattle.mt_write.proofs.put_reply.put_done.Goals as goal

pub returns-in-Fix : goal.returns-in-Fix
unfolding json_on_literals
returns-in-Fix c = puts_is c.put.result c.args.out.now c.put.new.out _ _ (ap (λ word. reply_text (Done word)) (sym c.in-Fix.is)) c.put.ensures

pub returns-in-TypeLine : goal.returns-in-TypeLine
unfolding json_on_literals
returns-in-TypeLine c =
    puts_is c.put-in-TypeLine.result c.args.out.now c.put-in-TypeLine.new.out _ _ (ap (λ word. reply_text (Done word)) (sym c.in-TypeLine.is))
    c.put-in-TypeLine.ensures

pub returns-in-Area : goal.returns-in-Area
unfolding json_on_literals
returns-in-Area c =
    puts_is c.put-in-Area.result c.args.out.now c.put-in-Area.new.out _ _ (ap (λ word. reply_text (Done word)) (sym c.in-Area.is))
    c.put-in-Area.ensures

pub returns-in-Rule : goal.returns-in-Rule
unfolding json_on_literals
returns-in-Rule c =
    puts_is c.put-in-Rule.result c.args.out.now c.put-in-Rule.new.out _ _ (ap (λ word. reply_text (Done word)) (sym c.in-Rule.is))
    c.put-in-Rule.ensures

pub returns-in-Begin : goal.returns-in-Begin
unfolding json_on_literals
returns-in-Begin c =
    puts_is c.put-in-Begin.result c.args.out.now c.put-in-Begin.new.out _ _ (ap (λ word. reply_text (Done word)) (sym c.in-Begin.is))
    c.put-in-Begin.ensures

pub returns-in-Bye : goal.returns-in-Bye
unfolding json_on_literals
returns-in-Bye c =
    puts_is c.put-in-Bye.result c.args.out.now c.put-in-Bye.new.out _ _ (ap (λ word. reply_text (Done word)) (sym c.in-Bye.is)) c.put-in-Bye.ensures
