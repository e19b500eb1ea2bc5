-- The reply to a line that can't be read.
use Rattle.std.specs.Prelude.{Result, Ok, Err}
use Rattle.mt_read.specs.declared.request.LineNo.{LineNo}
use Rattle.mt_read.specs.declared.request.LineNo.TheVariants as nos
use Rattle.mt_write.specs.declared.reply.Reply.{Reply}
use Rattle.mt_write.specs.declared.reply.Reply.TheVariants as replies

-- `unread_reply`, `or_reply`: why a line can't be read, as a reply; what was read, or that reply
abbrev pub unread_reply : LineNo → Reply
unread_reply nos.Json = replies.Json
unread_reply (nos.Form name) = replies.Form name
unread_reply (nos.Range name) = replies.Range name
unread_reply nos.Memory = replies.Memory

abbrev pub or_reply : {A : Type 0} → Result A LineNo → Result A Reply
or_reply (Ok read) = Ok read
or_reply (Err refusal) = Err (unread_reply refusal)
