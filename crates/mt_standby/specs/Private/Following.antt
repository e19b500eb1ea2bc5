-- No public contract names these: they are of private steps and of proofs.
use Rattle.std.specs.Prelude.{Result, Ok, Err}
use Rattle.mt_base.specs.declared.command.Entered.{Entered}
use Rattle.mt_history.specs.declared.following.FollowNo.{FollowNo}
use Rattle.mt_history.specs.declared.following.FollowNo.TheVariants as follow
use Rattle.mt_write.specs.declared.reply.Reply.{Reply}
use Rattle.mt_write.specs.declared.reply.Reply.TheVariants as replies

-- an entry's answer as a reply
abbrev pub follow_reply : Result Entered FollowNo → Reply
follow_reply (Ok entered) = replies.Entered entered
follow_reply (Err (follow.Late version)) = replies.Late version
follow_reply (Err (follow.Illegal version refusal)) = replies.Illegal version refusal
follow_reply (Err follow.Memory) = replies.Memory
