-- No public contract names these: they are of private steps and of proofs.
use Rattle.std.specs.Prelude.{◌≡◌, ℕ, List, Bool}
use Rattle.mt_write.specs.declared.reply.Reply.{Reply}
use Rattle.mt_write.specs.Reply.{reply_text}
use Rattle.mt_lines.specs.Given.{IsGivenFor, is_farewell}

-- a given reply's text, and whether it is the last
pub record IsGivenAs (reply : Reply) (text : List ℕ) (is_last : Bool) : Type 0 where
  pub given : Reply
  pub given_for : IsGivenFor reply given
  pub text_is : text ≡ reply_text given
  pub last_is : is_last ≡ is_farewell given
