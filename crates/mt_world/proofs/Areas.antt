-- A line that adds an area is refused, and then nothing changes, or it is done.
use Rattle.std.proofs.Common.{◌⊎◌, inl, inr, ◌≡◌, [], ◌∷◌, ◌++◌, Result, Ok, Err}
use Rattle.std.specs.Prelude.{⊤}
use Rattle.mt_area.specs.declared.area_no.AreaNo.{AreaNo}
use Rattle.mt_area.specs.declared.area_no.AreaNo.TheVariants as area_no
use Rattle.mt_base.specs.declared.area.Area.{Area}
use Rattle.mt_write.specs.declared.reply.DoneWord.TheVariants as done
use Rattle.mt_write.specs.declared.reply.Reply.{Reply}
use Rattle.mt_write.specs.declared.reply.Reply.TheVariants as replies
use Rattle.mt_world.specs.World.{IsAreaAdded, IsAreaGiven, IsGiven, World, with_areas}

abbrev IsDone : World → Area → Reply → World → Type 0
IsDone w area reply next = IsGiven (replies.Done done.Area) (with_areas w (w.areas ++ area ∷ [])) reply next

given_either : (w next : World) (area : Area) (result : Result ⊤ AreaNo) (reply : Reply) → IsAreaGiven w area result reply next
    → (next ≡ w) ⊎ IsDone w area reply next
given_either w next area (Ok _) reply given = inr given
given_either w next area (Err area_no.Taken) reply refused = inl refused.same
given_either w next area (Err area_no.Shape) reply refused = inl refused.same
given_either w next area (Err area_no.Full) reply refused = inl refused.same
given_either w next area (Err area_no.Memory) reply none = absurd none

pub added_either : (w next : World) (area : Area) (reply : Reply) → IsAreaAdded w area reply next → (next ≡ w) ⊎ IsDone w area reply next
added_either w next area reply added = given_either w next area added.result reply added.given
