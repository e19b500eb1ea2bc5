use Rattle.std.proofs.Common.{◌≡◌, ◌++◌, filter, map, take}
use Rattle.mt_picture.specs.Private.Candidates.{candidate_met, is_made_since}
use Rattle.mt_picture.proofs.candidates.add_met.Given as goal

abbrev pub invariant-loop-met : goal.invariant-loop-met
invariant-loop-met l = l.list.items ≡ l.initial.list.items
    ++ map candidate_met (filter (λ met. is_made_since l.snapshot.slots l.version met.item) (take l.met-index l.met-items))
