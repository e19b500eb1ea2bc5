use Rattle.std.proofs.Common.{◌≤◌, ◌-◌, length}
use Rattle.std.specs.List.{All}
use Rattle.mt_world.proofs.WorldLemmas.{IsFirst}
use Rattle.mt_world.proofs.centre.new_actors.Given as goal

abbrev pub invariant-loop-alloc : goal.invariant-loop-alloc
invariant-loop-alloc l = record { few : length l.actors.items ≤ 16; all : All (IsFirst l.taken) l.actors.items }

abbrev pub decreases-loop-alloc : goal.decreases-loop-alloc
decreases-loop-alloc l = 16 - length l.actors.items
