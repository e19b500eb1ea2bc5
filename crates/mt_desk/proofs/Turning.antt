-- What a turn leaves of a seat.
use Rattle.std.proofs.Common.{◌≡◌, ℕ, inl, inr, ⊎_elim, List, [], ◌∷◌, ◌++◌, length, Some, Result, Ok, Err, refl, sym, ap, ◌∙◌, subst, arith}
use Rattle.std.specs.Prelude.{IfErr, IfOk, OnErr}
use Rattle.std.proofs.lemmas.List.{length-append}
use Rattle.mt_base.specs.declared.command.Command.{Command}
use Rattle.mt_base.specs.declared.command.Entered.{Entered}
use Rattle.mt_base.specs.declared.command.Entry.{Entry}
use Rattle.mt_base.specs.Effect.{state_of}
use Rattle.mt_base.specs.Tables.{Setup}
use Rattle.mt_board.specs.declared.no.No.{No}
use Rattle.mt_board.specs.declared.no.No.TheVariants.{Memory, Refused}
use Rattle.mt_board.specs.Changing.{HasEntered, IsChanged}
use Rattle.mt_board.proofs.SeatLemmas.{decided_who}
use Rattle.mt_board.specs.BoardSeat.{GoesOn, HasLooked, HasSeen, entries_by}
use Rattle.mt_picture.specs.Story.{IsEntered, IsCommandRefused, Story}
use Rattle.mt_turn.specs.declared.view.Phase.{Phase}
use Rattle.mt_turn.specs.declared.view.Phase.TheVariants.{Holds}
use Rattle.mt_turn.specs.declared.view.View.{View}
use Rattle.mt_turn.specs.Lending.{AreViewsOfOneSeat, Grows, HasTurn, Left}
use Rattle.mt_turn.specs.Views.{with_phase}
use Rattle.mt_desk.specs.Desk.{seat_of}
use Rattle.mt_desk.specs.Private.Taken.{IsLegalStory}

abbrev pub who_of : Entry → ℕ
who_of e = e.who

-- a seat that entered has the turn
pub has_turn : (v w : View Entry Setup) (lent : List Entry) → (t : ℕ) × (w ≡ with_phase v (Holds t lent)) → HasTurn w lent
has_turn v w lent (t, is) = (t, ap (λ (x : View Entry Setup). x.phase) is)

-- a list is not itself with an element more
no_longer : (xs : List Entry) (e : Entry) → xs ≡ xs ++ e ∷ [] → ⊥
no_longer xs e is = omega (arith, ap length is, length-append xs (e ∷ []))

-- two lists that end with one element more
same_last : (xs : List Entry) (e f : Entry) → xs ++ e ∷ [] ≡ xs ++ f ∷ [] → e ≡ f
same_last [] e f is = cc
same_last (x ∷ xs) e f is = same_last xs e f cc

-- The history that was lent was left.
looks : (fixed : Setup) (v w : View Entry Setup) (h : Phase Entry) (log : List Entry) → entries_by v.number v.seen ≡ v.mine
    → Left who_of (with_phase v h) log log w → HasLooked (seat_of fixed v) (seat_of fixed w)
looks fixed v w h log tied l =
    let same : w.mine ≡ v.mine = ⊎_elim (λ m. m.1) (λ (e, own, is, m). absurd (no_longer log e is)) l.mine in
    record {
      same = record { number = l.same.0; fixed = refl };
      begins = (l.begins.0, l.seen ∙ l.begins.1);
      own = rw (l.seen, l.same.0) (l.mine_seen ∙ same ∙ sym tied);
      mine = same;
    }

-- The picture of the history that was left is one with a legal history, and the seat has seen it.
sees : (fixed : Setup) (v w : View Entry Setup) (h : Phase Entry) (p : Story) → p.setup ≡ fixed → IsLegalStory p → entries_by v.number v.seen ≡ v.mine
    → Left who_of (with_phase v h) p.history p.history w → HasSeen (seat_of fixed v) (seat_of fixed w) (length w.seen)
sees fixed v w h p is kept tied l = record {
  looked = looks fixed v w h p.history tied l;
  version_is = refl;
  sound = record { rules = rw is at kept.rules; legal = rw (l.seen, ← is) kept.legal; mine = rw (l.seen, l.same.0) l.mine_seen };
}

-- The same, as a turn in which nothing was published leaves it.
pub sees_turn : (fixed : Setup) (v u w : View Entry Setup) (lent p : Story) → (t : ℕ) × (u ≡ with_phase v (Holds t lent.history)) → p ≡ lent
    → Some p.setup ≡ v.fixed → v.fixed ≡ Some fixed → IsLegalStory p → entries_by v.number v.seen ≡ v.mine → Left who_of u lent.history p.history w
    → HasSeen (seat_of fixed v) (seat_of fixed w) (length w.seen)
sees_turn fixed v u w lent p (t, is) same lends own kept tied l =
    let setup : p.setup ≡ fixed = cc in
    let left = subst (λ (z : View Entry Setup). Left who_of z lent.history p.history w) is l in
    sees fixed v w (Holds t p.history) p setup kept tied
    (subst (λ (q : Story). Left who_of (with_phase v (Holds t q.history)) q.history p.history w) (sym same) left)

-- What was published may be left.
pub grows : (p q : Story) (who : ℕ) (c : Command) (result : Result Entered No) → IfOk result (IsEntered p q who c) → OnErr result (q ≡ p)
    → Grows who_of who p.history q.history
grows p q who c (Ok entered) is same = inr (is.entry, decided_who p.setup (state_of p.setup p.history) who c is.entry is.decided, is.longer)
grows p q who c (Err denied) is same = inl (ap (λ (r : Story). r.history) same)

enters : (fixed : Setup) (v w : View Entry Setup) (h : Phase Entry) (p q : Story) (c : Command) (entered : Entered) → p.setup ≡ fixed
    → GoesOn v.seen p.history → IsEntered p q v.number c entered → IsLegalStory q → Left who_of (with_phase v h) p.history q.history w
    → HasEntered (seat_of fixed v) (seat_of fixed w) c entered
enters fixed v w h p q c entered is begins e kept l = record {
  same = record { number = l.same.0; fixed = refl };
  front = p.history;
  entry = e.entry;
  begins = begins;
  decided = rw is at e.decided;
  entered_is = rw is at e.answered;
  seen = l.seen ∙ e.longer;
  mine = ⊎_elim (λ m. absurd (no_longer p.history e.entry (sym m.0 ∙ e.longer)))
      (λ (f, own, log, m). subst (λ (x : Entry). w.mine ≡ v.mine ++ x ∷ []) (same_last p.history f e.entry (sym log ∙ e.longer)) m) l.mine;
  sound = record {
    rules = rw (e.same, is) at kept.rules;
    legal = rw (l.seen, ← is, ← e.same) kept.legal;
    mine = rw (l.seen, l.same.0) l.mine_seen;
  };
}

denies : (fixed : Setup) (v w : View Entry Setup) (h : Phase Entry) (p : Story) (c : Command) (denied : No) → p.setup ≡ fixed
    → IsCommandRefused p v.number c denied → IsLegalStory p → entries_by v.number v.seen ≡ v.mine → Left who_of (with_phase v h) p.history p.history w
    → IsChanged (seat_of fixed v) c (Err denied) (seat_of fixed w)
denies fixed v w h p c (Refused refusal version) is d kept tied l =
    (rw (d.1, ← l.seen) (sees fixed v w h p is kept tied l), rw (l.seen, l.same.0, ← is) d.0)
denies fixed v w h p c Memory is d kept tied l = looks fixed v w h p.history tied l

-- What a decision in the turn leaves of the seat.
pub changes : (fixed : Setup) (v w : View Entry Setup) (h : Phase Entry) (p q : Story) (c : Command) (result : Result Entered No) → p.setup ≡ fixed
    → GoesOn v.seen p.history → IfOk result (IsEntered p q v.number c) → IfErr result (IsCommandRefused p v.number c) → OnErr result (q ≡ p)
    → IsLegalStory q → entries_by v.number v.seen ≡ v.mine → Left who_of (with_phase v h) p.history q.history w
    → IsChanged (seat_of fixed v) c result (seat_of fixed w)
changes fixed v w h p q c (Ok entered) is begins ok err same kept tied l = enters fixed v w h p q c entered is begins ok kept l
changes fixed v w h p q c (Err denied) is begins ok err same kept tied l = denies fixed v w h p c denied is err (rw same at kept) tied (rw same at l)

-- What one call keeps of a seat, and then another.
pub same_views : (u v w : View Entry Setup) → AreViewsOfOneSeat u v → AreViewsOfOneSeat v w → AreViewsOfOneSeat u w
same_views u v w a b = (b.0 ∙ a.0, b.1 ∙ a.1, b.2 ∙ a.2, b.3 ∙ a.3)

-- What a turn keeps of the seat that had it.
pub same_turn : (v u w : View Entry Setup) (lent : List Entry) → (t : ℕ) × (u ≡ with_phase v (Holds t lent)) → AreViewsOfOneSeat u w → AreViewsOfOneSeat v w
same_turn v u w lent (t, is) same = subst (λ (z : View Entry Setup). AreViewsOfOneSeat z w) is same
