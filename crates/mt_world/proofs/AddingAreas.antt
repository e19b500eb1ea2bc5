-- What is answered to a line that adds an area.
use Rattle.std.proofs.Common.{◌≡◌, ◌⊎◌, inl, inr, ℕ, false, [], ◌∷◌, ◌++◌, Ok, Err, refl}
use Rattle.mt_area.specs.declared.area_no.AreaNo.{AreaNo}
use Rattle.mt_area.specs.declared.area_no.AreaNo.TheVariants as area_no
use Rattle.mt_area.specs.Adding.{IsAnswer}
use Rattle.mt_base.specs.declared.area.Area.{Area}
use Rattle.mt_read.specs.declared.request.Request.TheVariants as requests
use Rattle.mt_write.specs.declared.reply.DoneWord.TheVariants as done
use Rattle.mt_write.specs.declared.reply.Reply.{Reply}
use Rattle.mt_write.specs.declared.reply.Reply.TheVariants as replies
use Rattle.mt_world.specs.World.{IsAreaAdded, IsRefused, IsServed, IsStarved, World, with_areas}
use Rattle.mt_world.specs.Private.Unadded.{area_refusal}
use Rattle.mt_world.proofs.Adding.{on_false}

module _ (w next : World) (who : ℕ) (area : Area) where
  abbrev IsTaken : Reply → Type 0
  IsTaken reply = IsServed w who (requests.Area area) reply next ⊎ IsStarved w who (requests.Area area) reply next

  abbrev IsRefusedAs : Reply → Type 0
  IsRefusedAs refusal = IsRefused w refusal refusal next

  refused_as : (refusal : Reply) → next ≡ w → IsRefusedAs refusal
  refused_as refusal same = record { reply_is = refl; same = same }

  -- memory is wanted
  pub area_starved : next ≡ w → IsTaken replies.Memory
  area_starved same = inr (record { reply_is = refl; left = same })

  added : (reply : Reply) → w.begun ≡ false → IsAreaAdded w area reply next → IsTaken reply
  added reply before is = inl (on_false w.begun _ _ before is)

  -- it is done
  pub area_done : w.begun ≡ false → IsAnswer w.areas area (Ok (tt {0})) → next ≡ with_areas w (w.areas ++ area ∷ []) → IsTaken (replies.Done done.Area)
  area_done before answer is = added (replies.Done done.Area) before (record {
    result = Ok (tt {0});
    answer = answer;
    given = record { reply_is = refl; next_is = is };
  })

  -- it is refused
  pub area_refused : (refusal : AreaNo) → w.begun ≡ false → IsAnswer w.areas area (Err refusal) → next ≡ w → IsTaken (area_refusal area.name refusal)
  area_refused area_no.Taken before answer same =
      added _ before (record { result = Err area_no.Taken; answer = answer; given = refused_as (replies.TakenFix area.name) same })
  area_refused area_no.Shape before answer same =
      added _ before (record { result = Err area_no.Shape; answer = answer; given = refused_as replies.Shape same })
  area_refused area_no.Full before answer same =
      added _ before (record { result = Err area_no.Full; answer = answer; given = refused_as replies.AreasFull same })
  area_refused area_no.Memory before answer same = area_starved same
