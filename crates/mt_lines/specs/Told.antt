-- What is answered, as a reply.
use Rattle.std.specs.Prelude.{Result, Ok, Err}
use Rattle.mt_base.specs.declared.command.Entered.{Entered}
use Rattle.mt_board.specs.declared.ask.Answer.{Answer}
use Rattle.mt_board.specs.declared.ask.Answer.TheVariants as answers
use Rattle.mt_board.specs.declared.no.No.{No}
use Rattle.mt_board.specs.declared.no.No.TheVariants as nos
use Rattle.mt_write.specs.declared.reply.Reply.{Reply}
use Rattle.mt_write.specs.declared.reply.Reply.TheVariants as replies

-- a refusal as a reply
abbrev pub no_reply : No → Reply
no_reply (nos.Refused refusal version) = replies.Refused refusal version
no_reply nos.Memory = replies.Memory

-- a command's answer as a reply
abbrev pub entered_reply : Result Entered No → Reply
entered_reply (Ok entered) = replies.Entered entered
entered_reply (Err denied) = no_reply denied

-- a read's answer as a reply
abbrev pub answer_reply : Result Answer No → Reply
answer_reply (Ok (answers.List conflicts version)) = replies.List conflicts version
answer_reply (Ok (answers.Check conflicts version)) = replies.List conflicts version
answer_reply (Ok (answers.Due calls version)) = replies.Due calls version
answer_reply (Ok (answers.Flight view)) = replies.Flight view
answer_reply (Ok (answers.History entries version)) = replies.History entries version
answer_reply (Err denied) = no_reply denied
