-- A line of a world has one reply.
use Rattle.std.proofs.Common.{◌≡◌, ℕ, Result, Ok, Err, sym, ◌∙◌}
use Rattle.mt_read.specs.declared.request.Request.{Request}
use Rattle.mt_write.specs.declared.reply.Reply.{Reply}
use Rattle.mt_top.specs.Script.{IsAnswered}
use Rattle.mt_world.specs.World.{World}
use Rattle.mt_world.proofs.OneAnswer.{one_served}

pub one_reply : (w : World) (a : Result (ℕ × Request) Reply) (r s : Reply) (next other : World) → IsAnswered w a r next → IsAnswered w a s other
    → (r ≡ s) × (next ≡ other)
one_reply w (Ok a) r s next other x y = one_served w a.0 a.1 r s next other x y
one_reply w (Err refusal) r s next other x y = (x.reply_is ∙ sym y.reply_is, x.same ∙ sym y.same)
