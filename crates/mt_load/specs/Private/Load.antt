-- No public contract names these: they are of private steps and of proofs.
use Rattle.std.specs.Prelude.{ℕ, ◌<◌, ◌≤◌, ◌^◌, All, ⊤}
use Rattle.mt_write.specs.declared.reply.AdviceItem.{AdviceItem}
use Rattle.mt_write.specs.declared.reply.Reply.{Reply}
use Rattle.mt_write.specs.declared.reply.Reply.TheVariants.{Advice}
use Rattle.mt_world.specs.World.{World, actor_of}

-- how many probes an actor of a world ever made
abbrev pub probes_of : World → ℕ → ℕ
probes_of w who = (actor_of w who).book.count

-- an advised clearance has a number that an acceptance can name
abbrev pub CanBeNamed : AdviceItem → Type 0
CanBeNamed item = (1 ≤ item.probe) × (item.probe < 2 ^ 63)

-- each clearance that a reply advises has such a number
abbrev pub HaveProbeNumbers : Reply → Type 0
HaveProbeNumbers (Advice advice call eff version) = All CanBeNamed advice
HaveProbeNumbers reply = ⊤
