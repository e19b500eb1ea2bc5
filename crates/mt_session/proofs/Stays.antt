-- A seat stays on at every call of its board.
use Rattle.std.proofs.Common.{◌≡◌, ◌∙◌, ℕ, List, Option, Result, Ok, Err, refl}
use Rattle.std.specs.Prelude.{IfOk, IfErr}
use Rattle.mt_base.specs.declared.clearance.Clearance.{Clearance}
use Rattle.mt_board.specs.declared.no.No.{No}
use Rattle.mt_base.specs.Picture.{State}
use Rattle.mt_base.specs.Tables.{Setup}
use Rattle.mt_board.specs.Probing.{IsAdvised, IsNotAdvised, IsNotProbed, IsProbed, ToldProbe}
use Rattle.mt_board.specs.BoardSeat.{BoardSeat, GoesOn, HasLooked, IsSameSeat}
use Rattle.mt_board.proofs.SeatLemmas.{denied_goes_on, goes_on, goes_on_itself, past_on, same_itself, same_on}
use Rattle.mt_session.specs.Private.Keeping.{ArePast, ServingNow, StaysOn}

pub stays_itself : {H : Type 0} (a : ServingNow H) → StaysOn a a
stays_itself a = record { same = same_itself a.session.seat; begins = goes_on_itself a.session.seat.seen; home = refl }

pub stays_on : {H : Type 0} (a b c : ServingNow H) → StaysOn a b → StaysOn b c → StaysOn a c
stays_on a b c ab bc = record {
  same = same_on a.session.seat b.session.seat c.session.seat ab.same bc.same;
  begins = goes_on a.session.seat.seen b.session.seat.seen c.session.seat.seen ab.begins bc.begins;
  home = bc.home ∙ ab.home;
}

-- a call that looks at nothing
pub stays_same : {H : Type 0} (a b : ServingNow H) → (b.session ≡ a.session) × (b.home ≡ a.home) → StaysOn a b
stays_same a b same = record {
  same = rw same.0 (same_itself a.session.seat);
  begins = rw same.0 (goes_on_itself a.session.seat.seen);
  home = same.1;
}

-- what was past stays past
pub are_past_on : {P : Type 0} (told : P → ToldProbe) (fixed : P → Setup) (state : P → State) (s t : BoardSeat) (probes : List P) → IsSameSeat s t × GoesOn s.seen t.seen
    → ArePast told fixed state s probes → ArePast told fixed state t probes
are_past_on told fixed state s t probes on are = λ k d below. past_on s t _ _ _ (are k d below) on.0 on.1

pub looked_on : (s t : BoardSeat) → HasLooked s t → IsSameSeat s t × GoesOn s.seen t.seen
looked_on s t looked = (looked.same, looked.begins)

module _ {P : Type 0} (told : P → ToldProbe) (s t : BoardSeat) (call : List ℕ) where
  -- at what is answered to a probe
  pub probed_on : (clearance : Clearance) (eff : Option ℕ) (r : Result P No) → IfOk r (λ p. IsProbed s t call clearance eff (told p))
      → IfErr r (IsNotProbed s t call clearance eff) → IsSameSeat s t × GoesOn s.seen t.seen
  probed_on clearance eff (Ok p) probed denied = looked_on s t probed.seen.looked
  probed_on clearance eff (Err d) probed denied = denied_goes_on s t _ d denied

-- and to a question for advice
pub advised_on : {A : Type 0} (eff version : A → ℕ) (probes : A → List ToldProbe) (s t : BoardSeat) (call : List ℕ) (r : Result A No)
    → IfOk r (λ a. IsAdvised s t call (eff a) (version a) (probes a)) → IfErr r (IsNotAdvised s t call) → IsSameSeat s t × GoesOn s.seen t.seen
advised_on eff version probes s t call (Ok a) advised denied = looked_on s t advised.seen.looked
advised_on eff version probes s t call (Err d) advised denied = denied_goes_on s t _ d denied
