-- What follows from a seat's phase.
use Rattle.std.proofs.Common.{◌≡◌, ℕ, ◌+◌, ◌<◌, ◌≤◌, List, arith}
use Rattle.mt_turn.specs.declared.view.Phase.{Phase}
use Rattle.mt_turn.specs.declared.view.Phase.TheVariants.{Idle, Splits, Waits, Holds, Counted, Spent}
use Rattle.mt_turn.specs.Private.Turning.{IsUnspent, HasTicket, HasSlot, numbers_drawn, IsInPhase}

module _ {E : Type 0} where
  pub ticket_unspent : (p : Phase E) (t : ℕ) → HasTicket p t → IsUnspent p
  ticket_unspent Idle t h = tt
  ticket_unspent (Splits n) t h = tt
  ticket_unspent (Waits u) t h = tt
  ticket_unspent (Holds u lent) t h = tt
  ticket_unspent (Counted u) t h = tt
  ticket_unspent Spent t h = h

  pub served_unspent : (p : Phase E) → HasSlot p → IsUnspent p
  served_unspent Idle h = tt
  served_unspent (Splits n) h = tt
  served_unspent (Waits u) h = tt
  served_unspent (Holds u lent) h = tt
  served_unspent (Counted u) h = tt
  served_unspent Spent h = h

  pub ticket_within : (log : List E) (served next seats : ℕ) (seen : List E) (p : Phase E) (t : ℕ) → HasTicket p t → IsInPhase log served next seats seen p → (served ≤ t) × (t < next)
  ticket_within log served next seats seen Idle t h at = absurd h
  ticket_within log served next seats seen (Splits n) t h at = absurd h
  ticket_within log served next seats seen (Waits u) t h at = let a = at.0 in let b = at.1 in (omega arith, omega arith)
  ticket_within log served next seats seen (Holds u lent) t h at = let a = at.0 in let b = at.1 in (omega arith, omega arith)
  ticket_within log served next seats seen (Counted u) t h at = let a = at.0 in let b = at.1 in (omega arith, omega arith)
  ticket_within log served next seats seen Spent t h at = absurd h

  -- the seat that has the slot is the one being served
  pub served_ticket : (log : List E) (served next seats : ℕ) (seen : List E) (p : Phase E) → HasSlot p → IsInPhase log served next seats seen p → HasTicket p served
  served_ticket log served next seats seen Idle h at = h
  served_ticket log served next seats seen (Splits n) h at = h
  served_ticket log served next seats seen (Waits u) h at = absurd h
  served_ticket log served next seats seen (Holds u lent) h at = at.0
  served_ticket log served next seats seen (Counted u) h at = at.0
  served_ticket log served next seats seen Spent h at = h

  pub after_draw : (log : List E) (served next seats : ℕ) (seen : List E) (p : Phase E) → IsInPhase log served next seats seen p → IsInPhase log served (next + 1) seats seen p
  after_draw log served next seats seen Idle at = tt
  after_draw log served next seats seen (Splits n) at = at
  after_draw log served next seats seen (Waits u) at = let b = at.1 in (at.0, omega arith)
  after_draw log served next seats seen (Holds u lent) at = let b = at.1 in (at.0, omega arith, at.2)
  after_draw log served next seats seen (Counted u) at = let b = at.1 in (at.0, omega arith, at.2)
  after_draw log served next seats seen Spent at = tt

  -- the turn is passed on, and the seat was not the one served
  pub after_pass : (log : List E) (served next seats : ℕ) (seen : List E) (p : Phase E) → (HasTicket p served → ⊥) → IsInPhase log served next seats seen p → IsInPhase log (served + 1) next seats seen p
  after_pass log served next seats seen Idle n at = tt
  after_pass log served next seats seen (Splits k) n at = at
  after_pass log served next seats seen (Waits u) n at = let a = at.0 in (omega arith, at.1)
  after_pass log served next seats seen (Holds u lent) n at = absurd (n at.0)
  after_pass log served next seats seen (Counted u) n at = absurd (n at.0)
  after_pass log served next seats seen Spent n at = tt

  -- the history grows under the turn of another seat
  pub after_count : (log log' : List E) (served next seats : ℕ) (seen : List E) (p : Phase E) → (HasSlot p → ⊥) → IsInPhase log served next seats seen p → IsInPhase log' served next seats seen p
  after_count log log' served next seats seen Idle n at = tt
  after_count log log' served next seats seen (Splits k) n at = at
  after_count log log' served next seats seen (Waits u) n at = at
  after_count log log' served next seats seen (Holds u lent) n at = absurd (n tt)
  after_count log log' served next seats seen (Counted u) n at = absurd (n tt)
  after_count log log' served next seats seen Spent n at = tt

  -- a new seat comes, and this one has drawn no number
  pub after_split : (log : List E) (served next seats more : ℕ) (seen : List E) (p : Phase E) → numbers_drawn p ≡ 0 → IsInPhase log served next seats seen p → IsInPhase log served next more seen p
  after_split log served next seats more seen Idle n at = tt
  after_split log served next seats more seen (Splits k) n at = absurd (omega arith)
  after_split log served next seats more seen (Waits u) n at = at
  after_split log served next seats more seen (Holds u lent) n at = at
  after_split log served next seats more seen (Counted u) n at = at
  after_split log served next seats more seen Spent n at = tt
