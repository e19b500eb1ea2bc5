-- The lines of a standby: up to the one that begins the picture those of a script, and from then on those that its standby answers.
use Rattle.std.specs.Prelude.{◌≡◌, ℕ, List, MatchBool, if◌then◌else◌}
use Rattle.mt_standby.specs.Standby as standby
use Rattle.mt_standby.specs.Standby.{standby_world}
use Rattle.mt_write.specs.declared.reply.Reply.{Reply}
use Rattle.mt_top.specs.Script.{IsReplied}
use Rattle.mt_world.specs.World.{World, setup_of}

-- the standby's world once a script's picture begins. It has what was set up.
abbrev pub opened : World → World
opened w = if w.begun then standby_world (record { setup = setup_of w; history = w.history }) else w

-- the reply to a line of a standby's run, and the world after. A script's lines until the picture begins, then a standby's.
abbrev pub IsStoodBy : World → List ℕ → Reply → World → Type 0
IsStoodBy w line reply next = MatchBool w.begun
    (standby.IsStandbyReplied w line reply next)
    ((answered : World) × IsReplied w line reply answered × (next ≡ opened answered))
