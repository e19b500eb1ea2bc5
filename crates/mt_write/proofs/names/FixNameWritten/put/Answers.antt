use Rattle.std.proofs.Common.{◌∙◌, sym}
use Rattle.mt_write.proofs.PlainText.{plain_name}
use Rattle.mt_write.proofs.Putting.{puts_is}
use Rattle.mt_write.proofs.ValueTexts.{name_text}
use Rattle.mt_write.proofs.names.FixNameWritten.put.Goals as goal

pub returns : goal.returns
returns c =
    puts_is c.put_quoted.result c.args.out.now c.put_quoted.new.out _ _
    (name_text c.args.self.now _ (c.bytes.ensures.text ∙ sym (plain_name 2 5 c.args.self.now c.bytes.ensures.named))) c.put_quoted.ensures
