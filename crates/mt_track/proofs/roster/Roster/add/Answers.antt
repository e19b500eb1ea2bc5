use Rattle.std.proofs.lemmas.List.Quantifiers.{all_pairs_push}
use Rattle.std.proofs.lemmas.List.{map-append}
use Rattle.mt_track.specs.Named.{HasName, named}
use Rattle.mt_track.proofs.roster.Roster.add.Goals as goal

pub invariant_of-self-2 : goal.invariant_of-self-2
invariant_of-self-2 c = rw (c.in_ok-push.ensures.items, map-append named)
    (all_pairs_push (λ a b. HasName b.call b.kind a → ⊥) _ _ c.self.invariant (rw (← c.self.view_is) at c.requires))
