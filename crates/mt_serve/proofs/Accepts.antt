-- Links, one by one.
use Rattle.std.proofs.Common.{◌≡◌, ◌<◌, ◌+◌, ℕ, Bool, suc, List, [], ◌∷◌, ◌++◌, map, length, All, None, Some, refl, sym, ap, ◌∙◌, subst, append_assoc, append-nil, arith}
use Rattle.std.specs.Prelude.{MatchOption, false, is_some}
use Rattle.std.specs.Option.{option_to_list}
use Rattle.std.proofs.lemmas.List.Elements.{All-push}
use Rattle.std.specs.declared.option.Option.{Option}
use Rattle.mt_base.specs.Tables.{Setup}
use Rattle.mt_desk.specs.Desk.{Desk, IsSeatOfDesk}
use Rattle.mt_turn.specs.Seats.{SeatNow}
use Rattle.mt_base.specs.declared.command.Entry.{Entry}
use Rattle.mt_io.specs.Door.{Count, LosesFront, Gains, gave_one}
use Rattle.mt_serve.specs.Sitting.{HaveNoChannel, SessionStart, seats_of}
use Rattle.mt_serve.specs.Private.Sitting.{HasServedLinks}
use Rattle.mt_serve.specs.Tied.{Doorway, doorway_of}
use Rattle.mt_serve.specs.Private.Accepting.{Accepting}

pub loses_none : {A : Type 0} (a : Option (List A)) → LosesFront a a []
loses_none None = tt
loses_none (Some xs) = refl

pub loses_on : {A : Type 0} (a b c : Option (List A)) (xs ys : List A) → LosesFront a b xs → LosesFront b c ys → LosesFront a c (xs ++ ys)
loses_on None b c xs ys ab bc = tt
loses_on (Some as_) None c xs ys ab bc = absurd ab
loses_on (Some as_) (Some bs) None xs ys ab bc = bc
loses_on (Some as_) (Some bs) (Some cs) xs ys ab bc = ab ∙ ap (λ zs. xs ++ zs) bc ∙ sym (append_assoc xs ys cs)

pub gains_none : {A : Type 0} (a : Option (List A)) → Gains a a []
gains_none None = tt
gains_none (Some xs) = sym (append-nil xs)

pub gains_on : {A : Type 0} (a b c : Option (List A)) (xs ys : List A) → Gains a b xs → Gains b c ys → Gains a c (xs ++ ys)
gains_on None b c xs ys ab bc = tt
gains_on (Some as_) None c xs ys ab bc = absurd ab
gains_on (Some as_) (Some bs) None xs ys ab bc = bc
gains_on (Some as_) (Some bs) (Some cs) xs ys ab bc = bc ∙ ap (λ zs. zs ++ ys) ab ∙ append_assoc as_ xs ys

pub map_push : {A B : Type 0} (f : A → B) (xs : List A) (x : A) → map f (xs ++ x ∷ []) ≡ map f xs ++ f x ∷ []
map_push f [] x = refl
map_push f (y ∷ xs) x = ap (λ zs. f y ∷ zs) (map_push f xs x)

pub length_push : {A : Type 0} (xs : List A) (x : A) → length (xs ++ x ∷ []) ≡ length xs + 1
length_push [] x = refl
length_push (y ∷ xs) x = omega (arith, length_push xs x)

pub at_some : {A : Type 0} (o : Option A) (x : A) (P : Type 0) (Q : A → Type 0) → o ≡ Some x → MatchOption o P Q → Q x
at_some o x P Q is m = subst (λ z. MatchOption z P Q) is m

pub all_rest : {A : Type 0} (P : A → Type 0) (x : A) (xs : List A) → All P (x ∷ xs) → All P xs
all_rest P x xs all k d below = all (suc k) d (omega arith)

pub all_first : {A : Type 0} (P : A → Type 0) (x : A) (xs : List A) → All P (x ∷ xs) → P x
all_first P x xs all = all 0 x (omega arith)

-- the next one goes from the front of one list to the end of the other
pub moved_on : {A : Type 0} (all begun rest begun' rest' : List A) (x y : A) → all ≡ begun ++ rest → rest ≡ x ∷ rest' → begun' ≡ begun ++ y ∷ [] → y ≡ x → all ≡ begun' ++ rest'
moved_on all begun rest begun' rest' x y is front pushed same =
    is ∙ ap (λ zs. begun ++ zs) front ∙ sym (append_assoc begun (x ∷ []) rest') ∙ ap (λ z. (begun ++ z ∷ []) ++ rest') (sym same) ∙ ap (λ zs. zs ++ rest') (sym pushed)

pub all_moved : {A : Type 0} (P : A → Type 0) (x : A) (xs ys : List A) → All P ys → ys ≡ x ∷ xs → All P xs
all_moved P x xs ys all is = all_rest P x xs (subst (All P) is all)

pub all_front : {A : Type 0} (P : A → Type 0) (x : A) (xs ys : List A) → All P ys → ys ≡ x ∷ xs → P x
all_front P x xs ys all is = all_first P x xs (subst (All P) is all)

pub accepting_more : {L : Type 0} (desk : Desk) (c d e : Count) (still left now : Option (List L)) (seats rest after : List (SeatNow Entry Setup)) (starts : List (SessionStart L)) (link : L) (seat : SeatNow Entry Setup)
    (has_channel : Bool) → Accepting desk c d still left seats rest starts → (d.given < d.sessions) × (e ≡ gave_one d) × LosesFront left now (link ∷ []) → rest ≡ seat ∷ after
    → Accepting desk c e still now seats after (starts ++ record { link = link; seat = seat; has_channel = has_channel } ∷ [])
accepting_more {L} desk c d e still left now seats rest after starts link seat has_channel so gave is =
    let s : SessionStart L = record { link = link; seat = seat; has_channel = has_channel } in
    let same = gave.1 in
    record {
      begun = record {
        port = ap (λ (z : Count). z.port) same ∙ so.begun.port;
        sessions = ap (λ (z : Count). z.sessions) same ∙ so.begun.sessions;
        given = omega (arith, ap (λ (z : Count). z.given) same, so.begun.given, length_push starts s);
        back = ap (λ (z : Count). z.back) same ∙ so.begun.back;
        links = subst (λ ls. LosesFront still now ls) (sym (map_push (λ (z : SessionStart L). z.link) starts s)) (loses_on _ _ _ _ _ so.begun.links gave.2);
        seats_are = so.begun.seats_are ∙ ap (λ zs. seats_of starts ++ zs) is ∙ sym (append_assoc (seats_of starts) (seat ∷ []) after) ∙ ap (λ zs. zs ++ after) (sym (map_push (λ (z : SessionStart L). z.seat) starts s));
      };
      ready = all_rest (IsSeatOfDesk desk) seat after (subst (λ zs. All (IsSeatOfDesk desk) zs) is so.ready);
      seated = omega (arith, ap (λ (z : Count). z.given) same, ap (λ (z : Count). z.sessions) same, so.seated, ap (λ (zs : List (SeatNow Entry Setup)). length zs) is);
    }

-- where there are no senders none is taken
none_taken : {S : Type 0} (job : Option S) (before after : List S) → before ≡ option_to_list job ++ after → before ≡ [] → (job ≡ None) × (after ≡ [])
none_taken None before after is none = (refl, sym is ∙ none)
none_taken (Some x) before after is none = cc

-- so the session that begins then has no channel, as those before it had none
pub channels_more : {L S : Type 0} (all before after : List S) (job : Option S) (starts more : List (SessionStart L)) (s : SessionStart L)
    → (all ≡ [] → (before ≡ []) × HaveNoChannel starts) → before ≡ option_to_list job ++ after → more ≡ starts ++ s ∷ [] → s.has_channel ≡ is_some job
    → all ≡ [] → (after ≡ []) × HaveNoChannel more
channels_more {L} {S} all before after job starts more s so taken is own none =
    let was = so none in
    let left = none_taken job before after taken was.0 in
    let quiet : s.has_channel ≡ false = own ∙ ap (λ (o : Option S). is_some o) left.0 in
    (left.1, subst (λ (xs : List (SessionStart L)). HaveNoChannel xs) (sym is) (All-push (λ (x : SessionStart L). x.has_channel ≡ false) starts s was.1 quiet))

-- what holds of the door that the scope gives back holds of the door afterwards
pub links_at : {L D : Type 0} (count : D → Count) (still returned : D → Option (List L)) (faults : D → ℕ) (desk : Desk) (old : Doorway L) (seats rest : List (SeatNow Entry Setup))
    (starts : List (SessionStart L)) (faulted : Bool) (d e : D) → HasServedLinks desk old (doorway_of count still returned faults e) seats rest starts faulted → d ≡ e
    → HasServedLinks desk old (doorway_of count still returned faults d) seats rest starts faulted
links_at count still returned faults desk old seats rest starts faulted d e links is =
    subst (λ z. HasServedLinks desk old (doorway_of count still returned faults z) seats rest starts faulted) (sym is) links
