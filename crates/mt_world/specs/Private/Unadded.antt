-- No public contract names these: they are of private steps and of proofs.
-- Why an area is not added, as a reply.
use Rattle.std.specs.Prelude.{ℕ, List}
use Rattle.mt_area.specs.declared.area_no.AreaNo.{AreaNo}
use Rattle.mt_area.specs.declared.area_no.AreaNo.TheVariants as area_no
use Rattle.mt_write.specs.declared.reply.Reply.{Reply}
use Rattle.mt_write.specs.declared.reply.Reply.TheVariants as replies

-- the refusal of a line that adds an area of that name
abbrev pub area_refusal : List ℕ → AreaNo → Reply
area_refusal name area_no.Taken = replies.TakenFix name
area_refusal name area_no.Shape = replies.Shape
area_refusal name area_no.Full = replies.AreasFull
area_refusal name area_no.Memory = replies.Memory
