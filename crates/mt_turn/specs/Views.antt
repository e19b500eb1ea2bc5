-- What seats know of a history, and what a split and a join make of it.
use Rattle.std.specs.Prelude.{◌≡◌, ℕ, zero, suc, ◌+◌, ◌==◌, List, [], ◌∷◌, ◌++◌, length, filter, cond, nat_lt, Some}
use Rattle.mt_turn.specs.declared.view.Phase.{Phase}
use Rattle.mt_turn.specs.declared.view.Phase.TheVariants.{Idle}
use Rattle.mt_turn.specs.declared.view.Joined.{Joined}
use Rattle.mt_turn.specs.declared.view.View.{View}

-- the entries with number n, in order
abbrev pub entries_of : {E : Type 0} → (E → ℕ) → ℕ → List E → List E
entries_of number n log = filter (λ e. number e == n) log

-- the history goes on from `front`
abbrev pub Extends : {E : Type 0} → List E → List E → Type 0
Extends {E} front log = (later : List E) × (log ≡ front ++ later)

-- the longer of two lists, or the first
abbrev pub longer : {E : Type 0} → List E → List E → List E
longer xs ys = cond (nat_lt (length xs) (length ys)) ys xs

-- 1, 2, 3 .. n
abbrev pub up_to : ℕ → List ℕ
up_to zero = []
up_to (suc n) = up_to n ++ suc n ∷ []

-- what a seat knows, in another phase
abbrev pub with_phase : {E F : Type 0} → View E F → Phase E → View E F
with_phase v p = record { number = v.number; seen = v.seen; mine = v.mine; gave = v.gave; joined = v.joined; fixed = v.fixed; phase = p }

-- what the first seat knows at the start
abbrev pub first_view : {E F : Type 0} → F → View E F
first_view f = record { number = 0; seen = []; mine = []; gave = []; joined = []; fixed = Some f; phase = Idle }

-- `giver`, `newcomer`: a split: the first seat, and the new one. The next number is given, and the new seat has seen what the first one has.
abbrev pub giver : {E F : Type 0} → View E F → View E F
giver v = record { number = v.number; seen = v.seen; mine = v.mine; gave = v.gave ++ (length v.gave + 1) ∷ []; joined = v.joined; fixed = v.fixed; phase = Idle }

abbrev pub newcomer : {E F : Type 0} → View E F → View E F
newcomer v = record { number = length v.gave + 1; seen = v.seen; mine = []; gave = []; joined = []; fixed = v.fixed; phase = Idle }

-- `joined_as`, `taker`: a join: the longer seen stays, the other is remembered
abbrev pub joined_as : {E F : Type 0} → View E F → Joined E
joined_as w = record { number = w.number; seen = w.seen; mine = w.mine }

abbrev pub taker : {E F : Type 0} → View E F → View E F → View E F
taker v w = record { number = v.number; seen = longer v.seen w.seen; mine = v.mine; gave = v.gave; joined = v.joined ++ joined_as w ∷ []; fixed = v.fixed; phase = v.phase }
