-- No public contract names these: they are of private steps and of proofs.
-- What each step of a turn tells the seat that makes it. `m` is the seat before, `r` the word that was found, and `m'` the seat after: what
-- it knows, and the slot that it has.
use Rattle.std.specs.Prelude.{◌≡◌, ◌≢◌, ℕ, ◌+◌, ◌%◌, ◌^◌, List, [], ◌∷◌, length, Option, Some}
use Rattle.atomic_table.specs.Table.{Me, rest}
use Rattle.mt_turn.specs.declared.view.Phase.TheVariants.{Idle, Splits, Waits, Holds, Counted}
use Rattle.mt_turn.specs.declared.view.View.{View}
use Rattle.mt_turn.specs.Views.{entries_of, Extends, up_to, with_phase}
use Rattle.mt_turn.specs.Lending.{Lent}

-- what a seat knows once it has counted: all of the history, and its own entries in it
abbrev pub counted_view : {E F : Type 0} → (E → ℕ) → View E F → ℕ → List E → View E F
counted_view number v t log = record { number = v.number; seen = log; mine = entries_of number v.number log; gave = v.gave; joined = v.joined; fixed = v.fixed; phase = Counted t }

-- a seat at the table, as the steps see it
abbrev pub Seated : Type 0 → Type 0 → Type 0 → Type 0
Seated E F S = Me (Option S) (View E F)

module _ {E F S : Type 0} where
  -- a ticket was drawn, and the word has its remainder
  abbrev pub DrawsTicket : Seated E F S → ℕ → Seated E F S → Type 0
  DrawsTicket m r m' = (t : ℕ) × (t % 2 ^ 64 ≡ r) × (m' ≡ (with_phase m.0 (Waits t), m.1))

  -- the seat with the ticket being served takes the slot, and is lent its value. Any other goes on waiting.
  abbrev pub Looks : (S → List E) → (E → ℕ) → (S → F) → Seated E F S → ℕ → Seated E F S → Type 0
  Looks history number fixed m r m' = (t : ℕ) → m.0.phase ≡ Waits t
      → (t % 2 ^ 64 ≡ r → (x : S) × (m' ≡ (with_phase m.0 (Holds t (history x)), (0, Some x) ∷ m.1)) × Lent history number fixed m.0 x) × (t % 2 ^ 64 ≢ r → m' ≡ m)

  -- the seat has the slot with the value y, and has seen its history
  abbrev pub SeesHistory : (S → List E) → (E → ℕ) → Seated E F S → ℕ → Seated E F S → Type 0
  SeesHistory history number m r m' = (y : S) (t : ℕ) (lent : List E) → m.1 ≡ (0, Some y) ∷ [] → m.0.phase ≡ Holds t lent
      → (m' ≡ (counted_view number m.0 t (history y), m.1)) × (entries_of number m.0.number lent ≡ m.0.mine) × Extends m.0.seen (history y)

  -- the slot is at home, and the seat outside
  abbrev pub HandsOn : Seated E F S → ℕ → Seated E F S → Type 0
  HandsOn m r m' = m' ≡ (with_phase m.0 Idle, rest m.1)

  -- the next seat's number was drawn. The numbers given so far are 1, 2, 3 and so on.
  abbrev pub Numbers : Seated E F S → ℕ → Seated E F S → Type 0
  Numbers m r m' = (m' ≡ (with_phase m.0 (Splits r), m.1)) × (r ≡ length m.0.gave + 1) × (m.0.gave ≡ up_to (length m.0.gave))
