-- No public contract names these: they are of private steps and of proofs.
use Rattle.std.specs.Prelude.{ℕ, List, [], ◌∷◌, Option, None}
use Rattle.mt_turn.specs.declared.view.Phase.{Phase}
use Rattle.mt_turn.specs.declared.view.Phase.TheVariants.{Holds, Spent}
use Rattle.mt_turn.specs.declared.view.View.{View}

-- `carried_of`, `spent`: the place of the value, which the seat with the turn has, empty; a view that is spent
abbrev pub carried_of : {E T : Type 0} → Phase E → List (ℕ × Option T)
carried_of (Holds t lent) = (0, None) ∷ []
carried_of _ = []

abbrev pub spent : {E F : Type 0} → View E F
spent = record { number = 0; seen = []; mine = []; gave = []; joined = []; fixed = None; phase = Spent }
