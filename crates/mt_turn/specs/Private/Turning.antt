-- No public contract names these: they are of private steps and of proofs.
-- The rule of a turn: what holds of its words, its slot and what its seats know, at every moment.
-- The words are the next ticket, the ticket being served, the count of entries, and the next seat's number. The slot has the value, or is out
-- with the seat being served.
use Rattle.std.specs.Prelude.{◌≡◌, ℕ, ◌+◌, ◌%◌, ◌^◌, ◌<◌, ◌≤◌, ◌⊎◌, List, [], ◌∷◌, length, Contains, Option, Some}
use mathlib.Core.Option.{some, none}
use lib.ListN.{get_elem?}
use Rattle.atomic_table.specs.Table.{State}
use Rattle.mt_turn.specs.declared.view.Phase.{Phase}
use Rattle.mt_turn.specs.declared.view.Phase.TheVariants.{Splits, Waits, Holds, Counted, Spent}
use Rattle.mt_turn.specs.declared.view.Joined.{Joined}
use Rattle.mt_turn.specs.declared.view.View.{View}
use Rattle.mt_turn.specs.Views.{entries_of, Extends, up_to}
use Rattle.mt_turn.specs.Lending.{HaveOwnNumbers}

module _ {E : Type 0} where
  -- a view that is not spent
  abbrev pub IsUnspent : Phase E → Type 0
  IsUnspent Spent = ⊥
  IsUnspent _ = Unit {0}

  -- `tickets`, `HasTicket`: how many tickets a seat is out with; it is out with this one
  abbrev pub tickets : Phase E → ℕ
  tickets (Waits t) = 1
  tickets (Holds t lent) = 1
  tickets (Counted t) = 1
  tickets _ = 0

  abbrev pub HasTicket : Phase E → ℕ → Type 0
  HasTicket (Waits t) n = t ≡ n
  HasTicket (Holds t lent) n = t ≡ n
  HasTicket (Counted t) n = t ≡ n
  HasTicket _ n = ⊥

  -- the seat has the slot
  abbrev pub HasSlot : Phase E → Type 0
  HasSlot (Holds t lent) = Unit {0}
  HasSlot (Counted t) = Unit {0}
  HasSlot _ = ⊥

  -- how many numbers are drawn that no seat has yet
  abbrev pub numbers_drawn : Phase E → ℕ
  numbers_drawn (Splits n) = 1
  numbers_drawn _ = 0

  -- what a phase says of the turn. The history is `log`, the tickets from `served` on and below `next` are out, there are `seats` seats, and the seat
  -- has seen `seen`.
  abbrev pub IsInPhase : List E → ℕ → ℕ → ℕ → List E → Phase E → Type 0
  IsInPhase log served next seats seen (Splits n) = n ≡ seats
  IsInPhase log served next seats seen (Waits t) = (served ≤ t) × (t < next)
  IsInPhase log served next seats seen (Holds t lent) = (t ≡ served) × (t < next) × (lent ≡ log)
  IsInPhase log served next seats seen (Counted t) = (t ≡ served) × (t < next) × (seen ≡ log)
  IsInPhase log served next seats seen _ = Unit {0}

module _ {E F : Type 0} where
  -- how many tickets are out with these seats
  abbrev pub out : List (View E F) → ℕ
  out [] = 0
  out (v ∷ vs) = tickets v.phase + out vs

  -- what each unspent view v at the place id knows
  pub record Knows (number : E → ℕ) (plain : F) (log : List E) (served next seats id : ℕ) (v : View E F) : Type 0 where
    pub own : v.number ≡ id
    pub begins : Extends v.seen log
    pub mine : entries_of number v.number log ≡ v.mine
    pub mine_seen : entries_of number v.number v.seen ≡ v.mine
    pub same : v.fixed ≡ Some plain
    pub at : IsInPhase log served next seats v.seen v.phase
    pub later : 0 < id → (v.gave ≡ []) × (v.joined ≡ []) × (numbers_drawn v.phase ≡ 0)

  -- what each joined seat knew, whose view is spent
  pub record Taken (number : E → ℕ) (log : List E) (views : List (View E F)) (j : Joined E) : Type 0 where
    pub begins : Extends j.seen log
    pub mine : entries_of number j.number log ≡ j.mine
    pub gone : (w : View E F) × (get_elem? views j.number ≡ some w) × (w.phase ≡ Spent)

  -- what the first seat, which alone splits and joins, has given and joined
  pub record Rooted (number : E → ℕ) (log : List E) (numbers : ℕ) (views : List (View E F)) : Type 0 where
    pub root : View E F
    pub place : get_elem? views 0 ≡ some root
    pub unspent : IsUnspent root.phase
    pub gave_is : root.gave ≡ up_to (length root.gave)
    pub all : length root.gave + 1 ≡ length views
    pub next_number : numbers ≡ length views + numbers_drawn root.phase
    pub taken : (j : Joined E) → Contains root.joined j → Taken number log views j
    pub own_numbers : HaveOwnNumbers root.joined

  -- the slot has the value, and no seat has the turn
  pub record AtHome {S : Type 0} (history : S → List E) (fixed : S → F) (plain : F) (log : List E) (s : State (Option S) (View E F)) : Type 0 where
    pub value : S
    pub there : s.homes ≡ some (Some value) ∷ []
    pub is : history value ≡ log
    pub same : fixed value ≡ plain
    pub none_served : (i : ℕ) (v : View E F) → get_elem? s.views i ≡ some v → HasSlot v.phase → ⊥

  -- the slot is out with the seat that has the turn
  pub record IsOut {S : Type 0} (s : State (Option S) (View E F)) : Type 0 where
    pub empty : s.homes ≡ none ∷ []
    pub by_whom : (i : ℕ) × (v : View E F) × (get_elem? s.views i ≡ some v) × HasSlot v.phase

  -- the rule of a turn, at every moment
  pub record Turning {S : Type 0} (history : S → List E) (number : E → ℕ) (fixed : S → F) (plain : F) (s : State (Option S) (View E F)) : Type 0 where
    pub log : List E
    pub served : ℕ
    pub next : ℕ
    pub numbers : ℕ
    pub words : s.words ≡ next % 2 ^ 64 ∷ served % 2 ^ 64 ∷ length log ∷ numbers ∷ []
    pub slot : AtHome history fixed plain log s ⊎ IsOut s
    pub tickets_out : served + out s.views ≡ next
    pub short : length log ≤ 2 ^ 32
    pub few : length s.views ≤ 2 ^ 31 + 1
    pub each : (i : ℕ) (v : View E F) → get_elem? s.views i ≡ some v → IsUnspent v.phase → Knows number plain log served next (length s.views) i v
    pub apart : (i j t : ℕ) (v w : View E F) → get_elem? s.views i ≡ some v → get_elem? s.views j ≡ some w → HasTicket v.phase t → HasTicket w.phase t → i ≡ j
    pub first : Rooted number log numbers s.views
    pub entries : (e : E) → Contains log e → number e < length s.views
