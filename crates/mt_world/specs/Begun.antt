-- The reply that says that a picture has begun.
use Rattle.std.specs.Prelude.{Bool, true, false}
use Rattle.mt_write.specs.declared.reply.DoneWord.TheVariants as done
use Rattle.mt_write.specs.declared.reply.Reply.{Reply}
use Rattle.mt_write.specs.declared.reply.Reply.TheVariants as replies

-- the reply that begins the picture
abbrev pub is_begin : Reply → Bool
is_begin (replies.Done done.Begin) = true
is_begin reply = false
