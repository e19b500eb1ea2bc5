-- What holds of a command where the history has gone on.
use Rattle.std.proofs.Common.{◌≡◌, ℕ, ◌≤◌, List, [], length, take, Some, Result, Ok, Err, sym, ap, subst, arith, length-append}
use Rattle.std.specs.Prelude.{IfOk, OnErr, OnOk}
use Rattle.std.proofs.lemmas.List.{take-append-le}
use Rattle.mt_base.specs.declared.command.Command.{Command}
use Rattle.mt_base.specs.declared.command.Command.TheVariants.{Accept}
use Rattle.mt_base.specs.declared.command.Entered.{Entered}
use Rattle.mt_base.specs.declared.command.Entry.{Entry}
use Rattle.mt_base.specs.Bounds.{AreWithinBounds, IsAskedFor, IsBoundedCommand}
use Rattle.mt_base.specs.Effect.{state_of}
use Rattle.mt_base.specs.History.{IsInTime, IsLegal, WasFree}
use Rattle.mt_base.specs.Tables.{Setup}
use Rattle.mt_base.specs.WhatIf.{IsWhatIf}
use Rattle.mt_board.specs.declared.no.No.{No}
use Rattle.mt_board.specs.BoardSeat.{GoesOn}
use Rattle.mt_change.specs.Altered.{IsBoundedBesides}
use Rattle.mt_picture.specs.Story.{IsEntered, Story}
use Rattle.mt_picture.proofs.Counted.{history_counted}
use Rattle.mt_desk.specs.Private.Taken.{IsLegalStory}

-- ---- a history that has gone on

-- It has the same first entries: so what was prepared or probed on a version is of every history that is found later.
take_on : (n : ℕ) (a b : List Entry) → GoesOn a b → n ≤ length a → take n b ≡ take n a
take_on n a b (later, is) within = rw is (take-append-le n a later within)

-- what was free when it was probed was so in every history that is found later
pub free_on : (setup : Setup) (a b : List Entry) (c : Command) → GoesOn a b → IsInTime (length a) c → WasFree setup a c → WasFree setup b c
free_on setup a b (Accept call clearance eff probed) on in_time free =
    subst (λ (front : List Entry). IsWhatIf setup (state_of setup front) call clearance (Some eff) (Ok [])) (sym (take_on probed a b on in_time)) free
free_on setup a b c on in_time free = tt

-- what was probed at a version that had been reached was so
pub in_time_on : (a b : List Entry) (c : Command) → GoesOn a b → IsInTime (length a) c → IsInTime (length b) c
in_time_on a b (Accept call clearance eff probed) (later, is) in_time = omega (arith, in_time, ap length is, length-append a later)
in_time_on a b c on in_time = tt

-- ---- a command that is asked for by itself

-- It names no probe, so nothing is asked of one.
pub asked_in_time : (n : ℕ) (c : Command) → IsAskedFor c → IsInTime n c
asked_in_time n (Accept call clearance eff probed) asked = absurd asked
asked_in_time n c asked = tt

pub asked_free : (setup : Setup) (h : List Entry) (c : Command) → IsAskedFor c → WasFree setup h c
asked_free setup h (Accept call clearance eff probed) asked = absurd asked
asked_free setup h c asked = tt

pub asked_bounded : (c : Command) → IsBoundedCommand c → IsBoundedBesides c
asked_bounded (Accept call clearance eff probed) bounded = (bounded.0, bounded.1)
asked_bounded c bounded = bounded

-- ---- what is decided

-- a picture with a legal history has one after a decision
pub legal_after : (p q : Story) (who : ℕ) (c : Command) (result : Result Entered No) → IsLegalStory p → WasFree p.setup p.history c
    → IfOk result (IsEntered p q who c) → OnErr result (q ≡ p)
    → OnOk result (IsLegal p.setup p.history → WasFree p.setup p.history c → IsLegal q.setup q.history) → IsLegalStory q
legal_after p q who c (Ok entered) kept free is same legal =
    let rules : AreWithinBounds q.setup.rules = rw is.same kept.rules in
    let after = legal kept.legal free in
    record { rules = rules; legal = after; short = history_counted q.setup q.history rules after.replayable }
legal_after p q who c (Err denied) kept free is same legal = rw same kept
