-- The entry at which a history is cut in two.
use Rattle.std.proofs.Common.{◌≡◌, List, [], ◌∷◌, ◌++◌, length, Some, Ok, refl, subst}
use Rattle.std.proofs.Math.Seq.{take-append_seam}
use Rattle.std.specs.Prelude.{slice_get}
use Rattle.mt_base.specs.declared.command.Entry.{Entry}
use Rattle.mt_base.specs.Decision.{IsDecided}
use Rattle.mt_base.specs.Effect.{state_of}
use Rattle.mt_base.specs.History.{IsReplayable}
use Rattle.mt_base.specs.Tables.{Setup}

pub slice_get_seam : (h : List Entry) (e : Entry) (t : List Entry) → slice_get (h ++ e ∷ t) (length h) ≡ Some e
slice_get_seam [] e t = refl
slice_get_seam (x ∷ xs) e t = slice_get_seam xs e t

-- it is what was decided in the state of the entries before it
pub decided_at : (setup : Setup) (h : List Entry) (e : Entry) (t : List Entry) → IsReplayable setup (h ++ e ∷ t)
    → IsDecided setup (state_of setup h) e.who e.command (Ok e)
decided_at setup h e t replayable = subst (λ (front : List Entry). IsDecided setup (state_of setup front) e.who e.command (Ok e))
    (take-append_seam h (e ∷ t)) (replayable (length h) e (slice_get_seam h e t)).0
