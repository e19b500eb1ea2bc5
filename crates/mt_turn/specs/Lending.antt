-- What a seat is lent, what it may leave, and what stands at the end.
use Rattle.std.specs.Prelude.{◌≡◌, ℕ, ◌^◌, ◌≤◌, ◌⊎◌, List, [], ◌∷◌, ◌++◌, length, Contains, Some}
use mathlib.Core.Option.{some}
use lib.ListN.{get_elem?}
use Rattle.mt_turn.specs.declared.view.Phase.TheVariants.{Holds}
use Rattle.mt_turn.specs.declared.view.Joined.{Joined}
use Rattle.mt_turn.specs.declared.view.View.{View}
use Rattle.mt_turn.specs.Views.{entries_of, Extends}

-- the value lent to a seat begins with what it saw; what is new is others'. Its plain data is the seat's.
pub record Lent {E F S : Type 0} (history : S → List E) (number : E → ℕ) (fixed : S → F) (v : View E F) (x : S) : Type 0 where
  pub begins : (later : List E) × (history x ≡ v.seen ++ later) × (entries_of number v.number later ≡ [])
  pub mine : entries_of number v.number (history x) ≡ v.mine
  pub mine_seen : entries_of number v.number v.seen ≡ v.mine
  pub same : Some (fixed x) ≡ v.fixed
  pub short : length (history x) ≤ 2 ^ 32

-- the seat has the turn, with a value of history `lent`
abbrev pub HasTurn : {E F : Type 0} → View E F → List E → Type 0
HasTurn v lent = (t : ℕ) × (v.phase ≡ Holds t lent)

-- the history lent, or that with one entry more of the seat's
abbrev pub Grows : {E : Type 0} → (E → ℕ) → ℕ → List E → List E → Type 0
Grows {E} number n lent log = (log ≡ lent) ⊎ ((e : E) × (number e ≡ n) × (log ≡ lent ++ e ∷ []))

-- two views of one seat, without a split or join between
abbrev pub AreViewsOfOneSeat : {E F : Type 0} → View E F → View E F → Type 0
AreViewsOfOneSeat v w = (w.number ≡ v.number) × (w.gave ≡ v.gave) × (w.joined ≡ v.joined) × (w.fixed ≡ v.fixed)

-- a seat leaves the history `log`: it saw all of it, and added at most one entry. It was lent `lent`, knew v and knows w.
pub record Left {E F : Type 0} (number : E → ℕ) (v : View E F) (lent log : List E) (w : View E F) : Type 0 where
  pub seen : w.seen ≡ log
  pub begins : Extends v.seen log
  pub mine : ((log ≡ lent) × (w.mine ≡ v.mine)) ⊎ ((e : E) × (number e ≡ v.number) × (log ≡ lent ++ e ∷ []) × (w.mine ≡ v.mine ++ e ∷ []))
  pub mine_seen : entries_of number v.number log ≡ w.mine
  pub same : AreViewsOfOneSeat v w

-- some joined seat has the number n
abbrev pub IsJoined : {E : Type 0} → List (Joined E) → ℕ → Type 0
IsJoined {E} joined n = (j : Joined E) × Contains joined j × (j.number ≡ n)

-- no two joined seats have one number
abbrev pub HaveOwnNumbers : {E : Type 0} → List (Joined E) → Type 0
HaveOwnNumbers {E} joined = (i j : ℕ) (a b : Joined E) → get_elem? joined i ≡ some a → get_elem? joined j ≡ some b → a.number ≡ b.number → i ≡ j

-- every seat split off is joined again
abbrev pub AllJoined : {E F : Type 0} → View E F → Type 0
AllJoined v = (n : ℕ) → Contains v.gave n → IsJoined v.joined n

-- the final history is exactly the seats' entries, and begins with what each saw. No two seats had one number.
pub record ClosesHistory {E F : Type 0} (number : E → ℕ) (v : View E F) (log : List E) : Type 0 where
  pub begins : Extends v.seen log
  pub mine : entries_of number 0 log ≡ v.mine
  pub joined_begins : (j : Joined E) → Contains v.joined j → Extends j.seen log
  pub joined_mine : (j : Joined E) → Contains v.joined j → entries_of number j.number log ≡ j.mine
  pub own_numbers : HaveOwnNumbers v.joined
  pub no_others : (e : E) → Contains log e → (number e ≡ 0) ⊎ IsJoined v.joined (number e)
