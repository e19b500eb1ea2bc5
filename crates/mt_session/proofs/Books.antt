-- A book of values that tell probes, as a book of probes.
use Rattle.std.proofs.Common.{◌≡◌, ◌⊎◌, inl, inr, ⊎_elim, subst, ℕ, Bool, true, false, List, [], ◌∷◌, length, Option, Some, None, Result, refl, sym, ◌∙◌, ap, ◌==◌}
use Rattle.std.specs.Option.{option_map}
use Rattle.std.specs.Prelude.{MatchBool}
use Rattle.mt_base.specs.declared.command.Entered.{Entered}
use Rattle.mt_base.specs.declared.command.Refusal.TheVariants.{NoProbe, NotFree}
use Rattle.mt_base.specs.declared.hit.Hit.{Hit}
use Rattle.mt_base.specs.Picture.{State}
use Rattle.mt_base.specs.Tables.{Setup}
use Rattle.mt_base.specs.declared.role.Role.{Role}
use Rattle.mt_board.specs.declared.no.No.{No}
use Rattle.mt_board.specs.Changing.{IsChanged}
use Rattle.mt_board.specs.Probing.{IsPast, ToldProbe, acceptance}
use Rattle.mt_board.specs.BoardSeat.{BoardSeat}
use Rattle.mt_board.specs.Book.{Book, probe_at, told_book, with_all}
use Rattle.mt_board.proofs.Books.{all_at, all_more, told_at}
use Rattle.mt_write.specs.declared.reply.Reply.{Reply}
use Rattle.mt_base.proofs.Cases.{empty_list}
use Rattle.mt_session.specs.Private.Keeping.{ArePast}
use Rattle.mt_lines.specs.Told.{entered_reply}
use Rattle.mt_session.specs.Served.{IsAcceptanceAnswered, IsCommanded, IsLooked, IsNumberRefused, is_none_listed}
use Rattle.mt_session.specs.Session.{Session}

module _ {P : Type 0} (told : P → ToldProbe) where
  module _ (fixed : P → Setup) (state : P → State) (s : BoardSeat) where
    -- with some probes more that are past, all are
    pub past_all : (book : Book P) (ps : List P) → ArePast told fixed state s book.last → ArePast told fixed state s ps
        → ArePast told fixed state s (with_all book ps).last
    past_all = all_more (λ q. IsPast s (fixed q) (state q) (told q).version)

  accepted_of : (s next : Session) (p : ToldProbe) (hits : p.hits ≡ []) (reply : Reply)
      → IsCommanded s (acceptance p) reply next → IsAcceptanceAnswered s (Some p) reply next
  accepted_of s next p none reply commanded = rw none commanded

  -- a probe of the book that was free was accepted
  pub accepted : (role : Option Role) (book : Book P) (seat new : BoardSeat) (number : ℕ) (p : P) (result : Result Entered No) (reply : Reply)
      → probe_at book number ≡ Some p → (length (told p).hits == 0) ≡ true
      → IsChanged seat (acceptance (told p)) result new → reply ≡ entered_reply result
      → IsAcceptanceAnswered (record { role = role; book = told_book told book; seat = seat }) (probe_at (told_book told book) number) reply
      (record { role = role; book = told_book told book; seat = new })
  accepted role book seat new number p result reply found none changed is =
      rw (told_at told book number, found) (accepted_of (record { role = role; book = told_book told book; seat = seat })
      (record { role = role; book = told_book told book; seat = new }) (told p) (empty_list (told p).hits none) reply
      (record { result = result; seat = new; changed = changed; given = record { reply_is = is; next_is = refl } }))

  -- the probe of a number is past
  pub past_at : (fixed : P → Setup) (state : P → State) (s : BoardSeat) (book : Book P) (n : ℕ) (p : P) → ArePast told fixed state s book.last
      → probe_at book n ≡ Some p → IsPast s (fixed p) (state p) (told p).version
  past_at fixed state s = all_at (λ q. IsPast s (fixed q) (state q) (told q).version)

  module _ (s next : Session) (book : Book P) (number : ℕ) (reply : Reply) (is : told_book told book ≡ s.book) where
    found_as : (found : Option P) → probe_at book number ≡ found → probe_at s.book number ≡ option_map told found
    found_as found at = ap (λ (b : Book ToldProbe). probe_at b number) (sym is) ∙ told_at told book number ∙ ap (option_map told) at

    -- the book has no probe of a number
    pub no_such : probe_at book number ≡ None → IsNumberRefused s NoProbe reply next ⊎ IsLooked s reply next
        → IsAcceptanceAnswered s (probe_at s.book number) reply next ⊎ IsLooked s reply next
    no_such none refused = subst (λ (found : Option ToldProbe). IsAcceptanceAnswered s found reply next ⊎ IsLooked s reply next) (sym (found_as None none)) refused

    full : (hits : List Hit) → (length hits == 0) ≡ false → is_none_listed hits ≡ false
    full [] none = cc
    full (x ∷ xs) some = refl

    hit_refused : (p : ToldProbe) → (length p.hits == 0) ≡ false → IsNumberRefused s NotFree reply next → IsAcceptanceAnswered s (Some p) reply next
    hit_refused p some refused = subst (λ (b : Bool). MatchBool b (IsCommanded s (acceptance p) reply next) (IsNumberRefused s NotFree reply next))
        (sym (full p.hits some)) refused

    -- that probe had hits
    pub not_free : (p : P) → probe_at book number ≡ Some p → (length (told p).hits == 0) ≡ false
        → IsNumberRefused s NotFree reply next ⊎ IsLooked s reply next
        → IsAcceptanceAnswered s (probe_at s.book number) reply next ⊎ IsLooked s reply next
    not_free p found some refused = subst (λ (found : Option ToldProbe). IsAcceptanceAnswered s found reply next ⊎ IsLooked s reply next)
        (sym (found_as (Some p) found)) (⊎_elim (λ one. inl (hit_refused (told p) some one)) (λ looked. inr looked) refused)
