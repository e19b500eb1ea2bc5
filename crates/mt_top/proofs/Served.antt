-- The reply to a line is that to what it asks for.
use Rattle.std.proofs.Common.{◌≡◌, ◌⊎◌, inl, inr, ⊎_elim, ℕ, ◌≤◌, List, length, Ok, refl, false, arith}
use Rattle.std.proofs.lemmas.Bool.Decides.{nat_tests}
use Rattle.std.specs.Prelude.{nat_lt}
use Rattle.mt_read.specs.declared.request.Sender.TheVariants.{Replay}
use Rattle.mt_read.specs.declared.request.Request.{Request}
use Rattle.mt_read.specs.Line.{line as read_as}
use Rattle.mt_write.specs.declared.reply.Reply.{Reply}
use Rattle.mt_top.specs.Script.{IsReplied, asked}
use Rattle.mt_world.specs.World.{IsServed, IsStarved, World}

-- what a line that isn't too long asks for
pub asked_is : (w : World) (line : List ℕ) (a : ℕ × Request) → length line ≤ 65536 → Ok a ≡ read_as Replay w.rules line → asked w line ≡ Ok a
asked_is w line a short is =
    let fits : nat_lt 65536 (length line) ≡ false = grind (arith, nat_tests) in
    rw (fits, ← is) refl

-- a line that was served, or for which there was no memory, has its reply
pub served_replied : (w next : World) (line : List ℕ) (who : ℕ) (request : Request) (reply : Reply) → length line ≤ 65536
    → asked w line ≡ Ok (who, request) → IsServed w who request reply next ⊎ IsStarved w who request reply next → IsReplied w line reply next
served_replied w next line who request reply short is served = ⊎_elim
    (λ served. inl (rw is served))
    (λ starved. inr (record { short = short; reply_is = starved.reply_is; left = rw is starved.left }))
    served
