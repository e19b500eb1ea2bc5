-- What is answered where a fix or a type is to be added.
use Rattle.std.proofs.Common.{◌≡◌, ◌⊎◌, inl, inr, ℕ, Bool, true, false, Result, Ok, refl}
use Rattle.std.specs.Prelude.{MatchBool, ⊤}
use Rattle.mt_base.specs.Tables.{Tables}
use Rattle.mt_tables.specs.declared.add_no.AddNo.{AddNo}
use Rattle.mt_read.specs.declared.request.Request.{Request}
use Rattle.mt_write.specs.declared.reply.DoneWord.{DoneWord}
use Rattle.mt_write.specs.declared.reply.Reply.{Reply}
use Rattle.mt_write.specs.declared.reply.Reply.TheVariants.{Done, Memory}
use Rattle.mt_world.specs.World.{World, IsAdded, IsWorldLeft, IsRefused, IsStarved}

-- one was added
pub is_added : (w next : World) (checked : Result ⊤ AddNo) (word : DoneWord) (taken : Reply) (tables : Tables)
    → checked ≡ Ok (tt {0}) → next ≡ record w { tables = tables } → IsAdded w checked word taken tables (Done word) next
is_added w next checked word taken tables is next_is = rw is (record { reply_is = refl; next_is = next_is })

pub on_false : (b : Bool) (P Q : Type 0) → b ≡ false → Q → MatchBool b P Q
on_false true P Q e q = cc
on_false false P Q e q = q

pub when_false : (b : Bool) (P Q : Type 0) → b ≡ false → MatchBool b P Q → Q
when_false true P Q e m = cc
when_false false P Q e m = m

-- what is answered before the picture has begun, or memory is wanted
pub before_or : (w next : World) (who : ℕ) (request : Request) (reply : Reply) (P Q : Type 0) → w.begun ≡ false → (next ≡ w → IsWorldLeft w who request next)
    → Q ⊎ IsRefused w Memory reply next → MatchBool w.begun P Q ⊎ IsStarved w who request reply next
before_or w next who request reply P Q before left (inl q) = inl (on_false w.begun P Q before q)
before_or w next who request reply P Q before left (inr memory) = inr (record { reply_is = memory.reply_is; left = left memory.same })
