-- Brief replies.
use Rattle.std.proofs.Common.{◌≡◌, ◌∙◌, true, false, true≢false, sym, ap}
use Rattle.mt_write.specs.declared.reply.Reply.{Reply}
use Rattle.mt_lines.specs.Given.{is_brief}

-- a brief reply is none of those that are not brief
pub not_given : (given reply : Reply) (P : Type 0) → reply ≡ given → is_brief given ≡ true → is_brief reply ≡ false → P
not_given given reply P is brief not_brief = absurd (true≢false (sym brief ∙ ap is_brief (sym is) ∙ not_brief))
