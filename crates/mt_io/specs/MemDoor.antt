-- A door in memory.
use Rattle.std.specs.Prelude.{◌≡◌, ◌<◌, ◌⊎◌, []}
use Rattle.mt_io.specs.Calls.{FaultPlan, IsNextListed}
use Rattle.mt_io.specs.declared.mem_door.MemDoor.{MemDoor}

-- the calls of `listen` and of `next_link` on a door
abbrev pub calls_of : MemDoor → FaultPlan
calls_of door = door.calls

-- the next link is to fail, or none is left
abbrev pub RefusesLink : MemDoor → Type 0
RefusesLink door = (door.given < door.sessions) × (IsNextListed door.calls ⊎ (door.links.items ≡ []))
