use Rattle.std.proofs.Common.{◌≡◌, ◌+◌, ℕ, cond, eqb, eq-eqb, List, [], ◌∷◌, ◌++◌, length, Result, Ok, Err, refl, sym, ap, ◌∙◌, arith}
use Rattle.std.proofs.lemmas.List.{append_assoc, append-nil, length-append, take-append-le}
use Rattle.std.proofs.lemmas.List.Elements.{filter-append}
use Rattle.mt_base.proofs.CheckLemmas.{answer_is}
use Rattle.mt_base.proofs.HistoryLemmas.{version_is}
use Rattle.mt_base.specs.declared.command.Command.{Command}
use Rattle.mt_base.specs.declared.command.Command.TheVariants.{Renew}
use Rattle.mt_base.specs.declared.command.Entered.{Entered}
use Rattle.mt_base.specs.declared.command.Entry.{Entry}
use Rattle.mt_base.specs.declared.command.Refusal.{Refusal}
use Rattle.mt_base.specs.Decision.{IsDecided, checks, filled, look_at}
use Rattle.mt_base.specs.Picture.{State}
use Rattle.mt_base.specs.Tables.{Setup}
use Rattle.mt_board.specs.declared.ask.Answer.{Answer}
use Rattle.mt_board.specs.declared.ask.Ask.{Ask}
use Rattle.mt_board.specs.declared.no.No.{No}
use Rattle.mt_board.specs.declared.no.No.TheVariants.{Memory, Refused}
use Rattle.mt_board.specs.Asking.{IsNotTold, IsRead}
use Rattle.mt_board.specs.Changing.{HasEntered, IsChanged, IsDenied}
use Rattle.mt_board.specs.Probing.{IsPast}
use Rattle.mt_board.specs.BoardSeat.{BoardSeat, GoesOn, HasLooked, HasSeen, IsSameSeat, entries_by}
use Rattle.mt_board.specs.Settling.{AreRenewalsAsked}

-- a history that goes on from one that goes on, and one that stays
pub goes_on : (a b c : List Entry) → GoesOn a b → GoesOn b c → GoesOn a c
goes_on a b c (x, bx) (y, cy) = (x ++ y, cy ∙ ap (λ l. l ++ y) bx ∙ append_assoc a x y)

pub goes_on_itself : (a : List Entry) → GoesOn a a
goes_on_itself a = ([], sym (append-nil a))

pub same_on : (s t u : BoardSeat) → IsSameSeat s t → IsSameSeat t u → IsSameSeat s u
same_on s t u a b = record { number = b.number ∙ a.number; fixed = b.fixed ∙ a.fixed }

pub same_itself : (s : BoardSeat) → IsSameSeat s s
same_itself s = record { number = refl; fixed = refl }

-- an entry more, of the seat
pub entries_push : (number : ℕ) (history : List Entry) (e : Entry) → e.who ≡ number → entries_by number (history ++ e ∷ []) ≡ entries_by number history ++ e ∷ []
entries_push number history e own =
    filter-append (λ (x : Entry). eqb x.who number) history (e ∷ []) ∙ ap (λ b. entries_by number history ++ cond b (e ∷ []) []) (eq-eqb e.who number own)

-- an entry that is decided is its actor's
pub decided_who : (setup : Setup) (s : State) (who : ℕ) (c : Command) (e : Entry) → IsDecided setup s who c (Ok e) → e.who ≡ who
decided_who setup s who c e decided =
    sym (ap (λ (f : Entry). f.who) (answer_is (checks setup (look_at s c) who c) (record { who = who; command = filled s.now c }) e decided.0))

-- looks
pub looked_itself : (s : BoardSeat) → HasLooked s s
looked_itself s = record { same = same_itself s; begins = goes_on_itself s.seen; own = refl; mine = refl }

pub looks_on : (s t u : BoardSeat) → HasLooked s t → HasLooked t u → HasLooked s u
looks_on s t u a b = record {
  same = same_on s t u a.same b.same;
  begins = goes_on s.seen t.seen u.seen a.begins b.begins;
  own = b.own ∙ a.own;
  mine = b.mine ∙ a.mine;
}

-- where the seat's own entries were all that it had seen of its number, they are so after a look
pub own_on : (s t : BoardSeat) → HasLooked s t → entries_by s.number s.seen ≡ s.mine → entries_by t.number t.seen ≡ t.mine
own_on s t looked tied = looked.own ∙ tied ∙ sym looked.mine

-- and they are so after each answer
pub own_seen : (s t : BoardSeat) (version : ℕ) → HasSeen s t version → entries_by t.number t.seen ≡ t.mine
own_seen s t version seen = seen.sound.mine

pub sees_on : (s t u : BoardSeat) (version : ℕ) → HasLooked s t → HasSeen t u version → HasSeen s u version
sees_on s t u version a b = record { looked = looks_on s t u a b.looked; version_is = b.version_is; sound = b.sound }

-- an answer after a look
pub denied_on : (s t u : BoardSeat) (why : Refusal → Type 0) (denied : No) → HasLooked s t → IsDenied t why denied u → IsDenied s why denied u
denied_on s t u why (Refused refusal version) a d = (sees_on s t u version a d.0, d.1)
denied_on s t u why Memory a d = looks_on s t u a d

pub change_on : (s t u : BoardSeat) (command : Command) (result : Result Entered No) → HasLooked s t → IsChanged t command result u → IsChanged s command result u
change_on s t u command (Ok entered) a e = record {
  same = same_on s t u a.same e.same;
  front = e.front;
  entry = e.entry;
  begins = goes_on s.seen t.seen e.front a.begins e.begins;
  decided = rw (a.same.number, a.same.fixed) at e.decided;
  entered_is = rw a.same.fixed at e.entered_is;
  seen = e.seen;
  mine = rw a.mine at e.mine;
  sound = e.sound;
}
change_on s t u command (Err denied) a d = denied_on s t u _ denied a d

-- whatever is answered, the same seat has seen all that it had seen
pub denied_goes_on : (s t : BoardSeat) (why : Refusal → Type 0) (denied : No) → IsDenied s why denied t → IsSameSeat s t × GoesOn s.seen t.seen
denied_goes_on s t why (Refused refusal version) d = (d.0.looked.same, d.0.looked.begins)
denied_goes_on s t why Memory d = (d.same, d.begins)

pub read_goes_on : (s t : BoardSeat) (asked : Ask) (result : Result Answer No) → IsRead s asked result t → IsSameSeat s t × GoesOn s.seen t.seen
read_goes_on s t asked (Ok answer) r = (r.0.looked.same, r.0.looked.begins)
read_goes_on s t asked (Err denied) d = denied_goes_on s t (IsNotTold t.fixed t.seen asked) denied d

pub change_goes_on : (s t : BoardSeat) (command : Command) (result : Result Entered No) → IsChanged s command result t → IsSameSeat s t × GoesOn s.seen t.seen
change_goes_on s t command (Ok entered) e = (e.same, goes_on s.seen e.front t.seen e.begins (e.entry ∷ [], e.seen))
change_goes_on s t command (Err denied) d = denied_goes_on s t _ denied d

pub renewals_go_on : (s t : BoardSeat) (calls : List (List ℕ)) (results : List (Result Entered No)) → AreRenewalsAsked s calls results t
    → IsSameSeat s t × GoesOn s.seen t.seen
renewals_go_on s t [] [] is = rw is (same_itself s, goes_on_itself s.seen)
renewals_go_on s t [] (r ∷ rs) never = absurd never
renewals_go_on s t (call ∷ calls) [] never = absurd never
renewals_go_on s t (call ∷ calls) (r ∷ rs) (next, changed, rest) =
    let one = change_goes_on s next (Renew call) r changed in
    let others = renewals_go_on next t calls rs rest in
    (same_on s next t one.0 others.0, goes_on s.seen next.seen t.seen one.1 others.1)

-- renewals after renewals
pub renewals_add : (s t u : BoardSeat) (calls more : List (List ℕ)) (results others : List (Result Entered No)) → AreRenewalsAsked s calls results t
    → AreRenewalsAsked t more others u → AreRenewalsAsked s (calls ++ more) (results ++ others) u
renewals_add s t u [] more [] others is later = rw is at later
renewals_add s t u [] more (r ∷ rs) others never later = absurd never
renewals_add s t u (call ∷ calls) more [] others never later = absurd never
renewals_add s t u (call ∷ calls) more (r ∷ rs) others (next, changed, rest) later =
    (next, changed, renewals_add next t u calls more rs others rest later)

-- what is past stays past
pub past_on : (s t : BoardSeat) (fixed : Setup) (state : State) (version : ℕ) → IsPast s fixed state version → IsSameSeat s t → GoesOn s.seen t.seen
    → IsPast t fixed state version
past_on s t fixed state version p same (later, is) = record {
  same = p.same ∙ sym same.fixed;
  past = omega (arith, p.past, ap length is, length-append s.seen later);
  state_is = rw (same.fixed, is, take-append-le version s.seen later p.past) p.state_is;
}

-- what is entered has the version of all that is seen
pub version_entered : (s t : BoardSeat) (command : Command) (entered : Entered) → HasEntered s t command entered → entered.version ≡ length t.seen
version_entered s t command entered e =
    ap (λ (x : Entered). x.version) e.entered_is ∙ ap (λ n. n + 1) (version_is s.fixed e.front)
    ∙ sym (ap length e.seen ∙ length-append e.front (e.entry ∷ []))
