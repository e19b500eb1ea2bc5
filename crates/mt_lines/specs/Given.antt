-- Which reply is given.
use Rattle.std.specs.Prelude.{◌≡◌, ◌⊎◌, Bool, true, false}
use Rattle.mt_write.specs.declared.reply.DoneWord.TheVariants as done
use Rattle.mt_write.specs.declared.reply.Reply.{Reply}
use Rattle.mt_write.specs.declared.reply.Reply.TheVariants as replies

-- a reply that needs no further memory. It is written in the room that was taken before the first line. Each reply that follows a change is one.
abbrev pub is_brief : Reply → Bool
is_brief (replies.List conflicts version) = false
is_brief (replies.Flight view) = false
is_brief (replies.Due calls version) = false
is_brief (replies.History entries version) = false
is_brief (replies.Areas areas version) = false
is_brief (replies.Form name) = false
is_brief (replies.Range name) = false
is_brief (replies.TakenFix name) = false
is_brief (replies.TakenType name) = false
is_brief (replies.Refused refusal version) = false
is_brief (replies.Illegal version refusal) = false
is_brief (replies.Late version) = false
is_brief reply = true

-- the reply that ends a run
abbrev pub is_farewell : Reply → Bool
is_farewell (replies.Done done.Bye) = true
is_farewell reply = false

-- this reply, or `memory` for one not brief
abbrev pub IsGivenFor : Reply → Reply → Type 0
IsGivenFor reply given = (given ≡ reply) ⊎ ((given ≡ replies.Memory) × (is_brief reply ≡ false))
