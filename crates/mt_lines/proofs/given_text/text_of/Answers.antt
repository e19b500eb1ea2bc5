use Rattle.std.proofs.Common.{◌∙◌, inr, refl, sym}
use Rattle.mt_write.proofs.Lengths.{short_text}
use Rattle.mt_write.specs.declared.reply.Reply.TheVariants as replies
use Rattle.mt_lines.proofs.given_text.text_of.Goals as goal

pub write_short-requires-clause-fits : goal.write_short-requires-clause-fits
write_short-requires-clause-fits c = short_text c.args.reply.now (c.is_brief.ensures.short c.if-is_brief.true)

pub write_short-requires-in-Err-clause-fits : goal.write_short-requires-in-Err-clause-fits
write_short-requires-in-Err-clause-fits c = short_text replies.Memory tt

pub returns-in-Err-clause-given : goal.returns-in-Err-clause-given
returns-in-Err-clause-given c = record {
  given = replies.Memory;
  given_for = inr (refl, sym c.is_brief.ensures.brief ∙ c.if-is_brief.false);
  text_is = c.write_short-in-Err.ensures.text;
  last_is = refl;
}
