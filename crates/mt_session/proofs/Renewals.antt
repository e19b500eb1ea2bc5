-- Settling, one renewal more at a time.
use Rattle.std.proofs.Common.{◌≡◌, ◌≢◌, ◌<◌, ◌≤◌, ◌+◌, inl, inr, ℕ, true, false, Some, None, take, get_or, length, List, [], ◌∷◌, ◌++◌, Result, Ok, Err, refl, sym, ◌∙◌, ap, append-nil, drop, true≢false}
use Rattle.std.proofs.lemmas.List.{take-append-drop, take_all, take_more}
use Rattle.std.proofs.lemmas.List.Elements.{All-push, All-from_recursion}
use Rattle.mt_base.specs.declared.command.Command.TheVariants.{Renew}
use Rattle.mt_base.specs.declared.command.Entered.{Entered}
use Rattle.mt_board.specs.declared.ask.Answer.{Answer}
use Rattle.mt_board.specs.declared.ask.Answer.TheVariants as answers
use Rattle.mt_board.specs.declared.ask.Ask.TheVariants as asks
use Rattle.mt_board.specs.declared.no.No.{No}
use Rattle.mt_board.specs.declared.no.No.TheVariants as no
use Rattle.mt_board.specs.Asking.{IsRead}
use Rattle.mt_board.specs.Changing.{IsChanged}
use Rattle.mt_board.specs.BoardSeat.{BoardSeat}
use Rattle.mt_board.specs.Settling.{AreMade, AreRenewalsAsked}
use Rattle.mt_board.proofs.SeatLemmas.{renewals_add}
use Rattle.mt_session.specs.Private.Settles.{Settles, is_starved, told_due}

-- these flights have been renewed, or that was refused
pub record HasRenewed (s : BoardSeat) (calls : List (List ℕ)) (t : BoardSeat) : Type 0 where
  pub results : List (Result Entered No)
  pub renewed : AreRenewalsAsked s calls results t
  pub made : AreMade results

pub none_renewed : (s : BoardSeat) → HasRenewed s [] s
none_renewed s = record { results = []; renewed = refl; made = All-from_recursion (λ (result : Result Entered No). result ≢ Err no.Memory) [] tt }

is_made : (r : Result Entered No) → is_starved r ≡ false → r ≢ Err no.Memory
is_made r made = λ is. absurd (true≢false (sym (ap is_starved is) ∙ made))

renewed_more : (s : BoardSeat) (calls : List (List ℕ)) (middle : BoardSeat) (call : List ℕ) (r : Result Entered No) (t : BoardSeat)
    → HasRenewed s calls middle → IsChanged middle (Renew call) r t → is_starved r ≡ false → HasRenewed s (calls ++ call ∷ []) t
renewed_more s calls middle call r t so_far changed one = record {
  results = so_far.results ++ r ∷ [];
  renewed = renewals_add s middle t calls (call ∷ []) so_far.results (r ∷ []) so_far.renewed (t, changed, refl);
  made = All-push (λ (result : Result Entered No). result ≢ Err no.Memory) so_far.results r so_far.made (is_made r one);
}

-- the step at place k
pub renewed_at : (s : BoardSeat) (calls : List (List ℕ)) (k : ℕ) (middle : BoardSeat) (d : List ℕ) (r : Result Entered No) (t : BoardSeat) → k < length calls
    → HasRenewed s (take k calls) middle → IsChanged middle (Renew (get_or calls k d)) r t → is_starved r ≡ false → HasRenewed s (take (k + 1) calls) t
renewed_at s calls k middle d r t below so_far changed one =
    rw (take_more calls k d below) (renewed_more s (take k calls) middle (get_or calls k d) r t so_far changed one)

-- the first read found no memory
pub unread : (old new : BoardSeat) (told : Result Answer No) → IsRead old asks.Due told new → told_due told ≡ None → Settles old None new
unread old new (Ok (answers.Due calls version)) read none = cc
unread old new (Ok (answers.List conflicts version)) read none = absurd read.1
unread old new (Ok (answers.Check conflicts version)) read none = absurd read.1
unread old new (Ok (answers.Flight view)) read none = absurd read.1
unread old new (Ok (answers.History entries version)) read none = absurd read.1
unread old new (Err (no.Refused refusal version)) read none = absurd read.1
unread old new (Err no.Memory) read none = inl read

module _ (old first last new : BoardSeat) (calls : List (List ℕ)) (was : ℕ) (read : IsRead old asks.Due (Ok (answers.Due calls was)) first) where
  -- a renewal found no memory
  pub broken : (k : ℕ) (call : List ℕ) → HasRenewed first (take k calls) last → IsChanged last (Renew call) (Err no.Memory) new → Settles old None new
  broken k call so_far changed = inr (record {
    calls = take k calls;
    rest = drop k calls;
    was = was;
    first = first;
    read = rw (take-append-drop k calls) read;
    results = so_far.results;
    last = last;
    renewed = so_far.renewed;
    made = so_far.made;
    looked = changed;
  })

  -- all were renewed, and what is due then was read
  pub settled : (told : Result Answer No) → HasRenewed first calls last → IsRead last asks.Due told new → Settles old (told_due told) new
  settled (Ok (answers.Due left version)) so_far told = record {
    calls = calls;
    was = was;
    first = first;
    read = read;
    results = so_far.results;
    last = last;
    renewed = so_far.renewed;
    made = so_far.made;
    told = told;
  }
  settled (Ok (answers.List conflicts version)) so_far told = absurd told.1
  settled (Ok (answers.Check conflicts version)) so_far told = absurd told.1
  settled (Ok (answers.Flight view)) so_far told = absurd told.1
  settled (Ok (answers.History entries version)) so_far told = absurd told.1
  settled (Err (no.Refused refusal version)) so_far told = absurd told.1
  settled (Err no.Memory) so_far told = inr (record {
    calls = calls;
    rest = [];
    was = was;
    first = first;
    read = rw (append-nil calls) read;
    results = so_far.results;
    last = last;
    renewed = so_far.renewed;
    made = so_far.made;
    looked = told;
  })

-- by what was told, and by what a change was answered
pub told_is : (told : Result Answer No) (x : List (List ℕ) × ℕ) → told_due told ≡ Some x → told ≡ Ok (answers.Due x.0 x.1)
told_is (Ok (answers.Due calls version)) x is = cc
told_is (Ok (answers.List conflicts version)) x is = cc
told_is (Ok (answers.Check conflicts version)) x is = cc
told_is (Ok (answers.Flight view)) x is = cc
told_is (Ok (answers.History entries version)) x is = cc
told_is (Err n) x is = cc

pub starved_is : (r : Result Entered No) → is_starved r ≡ true → r ≡ Err no.Memory
starved_is (Ok entered) is = cc
starved_is (Err (no.Refused refusal version)) is = cc
starved_is (Err no.Memory) is = refl

-- the loop has come to its end
pub all_renewed : (s : BoardSeat) (calls items : List (List ℕ)) (k : ℕ) (t : BoardSeat) → items ≡ calls → length items ≤ k → HasRenewed s (take k items) t
    → HasRenewed s calls t
all_renewed s calls items k t same over so_far = rw (← same, ← take_all k items over) so_far
