-- What a world keeps as it goes on.
use Rattle.std.proofs.Common.{◌≡◌, ◌⊎◌, inl, inr, ℕ, zero, suc, ◌<◌, Bool, true, false, List, [], ◌∷◌, ◌++◌, All, length, map, replicate, take, get_or, Result, Ok, refl, sym, ◌∙◌, ap, ap₂, subst, arith, length-append}
use Rattle.std.proofs.lemmas.List.{length-set, map-set, take-append-le, take_all}
use Rattle.std.specs.Prelude.{MatchBool, slice_set}
use Rattle.mt_base.specs.declared.command.Entry.{Entry}
use Rattle.mt_base.specs.Effect.{state_of}
use Rattle.mt_base.specs.History.{IsLegal}
use Rattle.mt_base.specs.Picture.{State, opening}
use Rattle.mt_base.specs.Tables.{Setup}
use Rattle.mt_base.proofs.HistoryLemmas.{version_is}
use Rattle.mt_board.specs.Book.{Book, empty_book, told_book}
use Rattle.mt_picture.specs.Story.{Story}
use Rattle.mt_probe.specs.Hits.{Trial, told_of}
use Rattle.mt_probe.specs.Shot.{Shot}
use Rattle.mt_probe.specs.Shot.{state_in_shot as state_in}
use Rattle.mt_world.specs.declared.actor.Actor.{Actor}
use Rattle.mt_world.specs.Private.Sound.{IsKeptOf, IsSoundActor, IsSoundWorld, IsTakenOf, actor_shown}
use Rattle.mt_read.specs.declared.request.Request.{Request}
use Rattle.mt_write.specs.declared.reply.Reply.{Reply}
use Rattle.mt_write.specs.declared.reply.Reply.TheVariants as replies
use Rattle.mt_world.specs.World.{IsRefused, IsStarved, IsWorldLeft, World, new_actor}
use Rattle.mt_world.specs.World as world

pub on_true : (b : Bool) (P Q : Type 0) → b ≡ true → P → MatchBool b P Q
on_true true P Q e p = p
on_true false P Q e p = cc

pub ok_same : {A : Type 0} {E : Type 0} (r s : Result A E) (x y : A) → r ≡ s → r ≡ Ok x → s ≡ Ok y → x ≡ y
ok_same r s x y same left right = cc

-- ---- a history that is longer

taken_push : (setup : Setup) (h : List Entry) (e : Entry) (shot : Shot) → IsTakenOf setup h shot → IsTakenOf setup (h ++ e ∷ []) shot
taken_push setup h e shot taken = record {
  setup_is = taken.setup_is;
  past = omega (arith, length-append h (e ∷ []), taken.past);
  state_is = taken.state_is ∙ ap (state_of setup) (sym (take-append-le shot.version h (e ∷ []) taken.past));
}

actor_push : (setup : Setup) (h : List Entry) (e : Entry) (a : Actor) → IsSoundActor setup h a → IsSoundActor setup (h ++ e ∷ []) a
actor_push setup h e a sound = record {
  taken = taken_push setup h e a.taken sound.taken;
  kept = λ k d below. taken_push setup h e (get_or a.book.last k d).shot (sound.kept k d below);
}

-- a world with one entry more is sound where its history is legal
pub sound_push : (setup : Setup) (h : List Entry) (e : Entry) (actors : List Actor) → IsSoundWorld (record { setup = setup; history = h }) actors
    → IsLegal setup (h ++ e ∷ []) → IsSoundWorld (record { setup = setup; history = h ++ e ∷ [] }) actors
sound_push setup h e actors sound legal = record {
  legal = legal;
  sixteen = sound.sixteen;
  each = λ k d below. actor_push setup h e (get_or actors k d) (sound.each k d below);
}

-- ---- actors

-- what holds of each element holds of each once one is put in the place of another
all_set : {X : Type 0} (P : X → Type 0) (xs : List X) (i : ℕ) (y : X) → All P xs → P y → All P (slice_set xs i y)
all_set P [] i y all is k d below = absurd (omega arith)
all_set P (x ∷ xs) zero y all is zero d below = is
all_set P (x ∷ xs) zero y all is (suc k) d below = all (suc k) d (omega arith)
all_set P (x ∷ xs) (suc i) y all is zero d below = all 0 d (omega arith)
all_set P (x ∷ xs) (suc i) y all is (suc k) d below = all_set P xs i y (λ j e lower. all (suc j) e (omega arith)) is k d (omega arith)

pub sound_set : (story : Story) (actors : List Actor) (i : ℕ) (a : Actor) → IsSoundWorld story actors → IsSoundActor story.setup story.history a
    → IsSoundWorld story (slice_set actors i a)
sound_set story actors i a sound actor = record {
  legal = sound.legal;
  sixteen = length-set actors i a ∙ sound.sixteen;
  each = all_set (IsSoundActor story.setup story.history) actors i a sound.each actor;
}

-- an actor of a world by its number is the actor of that place
pub actor_at : (actors : List Actor) (i : ℕ) (d : Actor) (e : world.Actor) → i < length actors → get_or (map actor_shown actors) i e ≡ actor_shown (get_or actors i d)
actor_at [] i d e below = absurd (omega arith)
actor_at (a ∷ bs) zero d e below = refl
actor_at (a ∷ bs) (suc i) d e below = actor_at bs i d e (omega arith)

-- and is sound
pub actor_sound : (story : Story) (actors : List Actor) (i : ℕ) (a : Actor) → IsSoundWorld story actors → i < 16 → a ≡ get_or actors i a
    → IsSoundActor story.setup story.history a
actor_sound story actors i a sound below is =
    let within : i < length actors = rw sound.sixteen below in
    subst (IsSoundActor story.setup story.history) (sym is) (sound.each i a within)

-- it is the actor of the definition of that number
pub actor_is : (actors : List Actor) (i : ℕ) (a : Actor) → i < length actors → a ≡ get_or actors i a → get_or (map actor_shown actors) i new_actor ≡ actor_shown a
actor_is actors i a below is = actor_at actors i a new_actor below ∙ sym (ap actor_shown is)

-- the actors as the definition has them, once one has another book
pub book_view : (actors : List Actor) (i : ℕ) (a : Actor) (book : Book Trial) → i < length actors → a ≡ get_or actors i a
    → map actor_shown (slice_set actors i (record { taken = a.taken; book = book }))
    ≡ slice_set (map actor_shown actors) i (record (get_or (map actor_shown actors) i new_actor) { book = told_book told_of book })
book_view actors i a book below is = map-set actor_shown actors i (record { taken = a.taken; book = book })
    ∙ ap (λ (b : world.Actor). slice_set (map actor_shown actors) i (record b { book = told_book told_of book })) (sym (actor_is actors i a below is))

-- and once one has taken another snapshot
pub taken_view : (actors : List Actor) (i : ℕ) (a : Actor) (shot : Shot) → i < length actors → a ≡ get_or actors i a
    → map actor_shown (slice_set actors i (record { taken = shot; book = a.book }))
    ≡ slice_set (map actor_shown actors) i (record (get_or (map actor_shown actors) i new_actor) { taken = shot.version })
taken_view actors i a shot below is = map-set actor_shown actors i (record { taken = shot; book = a.book })
    ∙ ap (λ (b : world.Actor). slice_set (map actor_shown actors) i (record b { taken = shot.version })) (sym (actor_is actors i a below is))

-- ---- at first

-- a snapshot of the history now
pub now_taken : (setup : Setup) (h : List Entry) (shot : Shot) → shot.setup ≡ setup → state_in shot ≡ state_of setup h → IsTakenOf setup h shot
now_taken setup h shot same is =
    let counted : shot.version ≡ length h = ap (λ (s : State). s.version) is ∙ version_is setup h in
    record {
      setup_is = same;
      past = omega (arith, counted);
      state_is = is ∙ ap (state_of setup) (sym (take_all shot.version h (omega (arith, counted))));
    }

abbrev pub IsFirst : Shot → Actor → Type 0
IsFirst shot actor = (actor.taken ≡ shot) × (actor.book ≡ empty_book)

-- actors as they are at first are those of the definition
pub shown_first : (shot : Shot) (actors : List Actor) (n : ℕ) → shot.version ≡ 0 → length actors ≡ n → All (IsFirst shot) actors
    → map actor_shown actors ≡ replicate n new_actor
shown_first shot [] zero none e all = refl
shown_first shot [] (suc n) none e all = cc
shown_first shot (a ∷ bs) zero none e all = cc
shown_first shot (a ∷ bs) (suc n) none e all = ap₂ (λ (b : world.Actor) (cs : List world.Actor). b ∷ cs)
    (first_shown a (all 0 a (omega arith))) (shown_first shot bs n none (omega arith) (λ k d below. all (suc k) d (omega arith))) where
      first_shown : (b : Actor) → IsFirst shot b → actor_shown b ≡ new_actor
      first_shown b is = rw (is.0, is.1, none) refl

-- a world in which each actor has taken version 0 is sound where its history is legal
pub sound_first : (setup : Setup) (h : List Entry) (shot : Shot) (actors : List Actor) → IsLegal setup h → shot.setup ≡ setup → shot.version ≡ 0
    → state_in shot ≡ opening → length actors ≡ 16 → All (IsFirst shot) actors → IsSoundWorld (record { setup = setup; history = h }) actors
sound_first setup h shot actors legal setup_is none state sixteen all = record {
  legal = legal;
  sixteen = sixteen;
  each = λ k d below. sound_one (get_or actors k d) (all k d below);
} where
  taken : IsTakenOf setup h shot
  taken = record { setup_is = setup_is; past = omega (arith, none); state_is = state ∙ ap (λ (n : ℕ). state_of setup (take n h)) (sym none) }

  sound_one : (actor : Actor) → IsFirst shot actor → IsSoundActor setup h actor
  sound_one actor first = record {
    taken = subst (IsTakenOf setup h) (sym first.0) taken;
    kept = subst (λ (b : Book Trial). All (IsKeptOf setup h) b.last) (sym first.1) (λ k d below. absurd (omega arith));
  }

-- an empty history is legal
pub legal_none : (setup : Setup) → IsLegal setup []
legal_none setup = record { replayable = λ i e is. absurd (cc); free = λ i e is. absurd (cc) }

-- ---- what a request is answered

-- where the picture has begun, or memory is wanted
pub begun_or : (w next : World) (who : ℕ) (request : Request) (reply : Reply) (P Q : Type 0) → w.begun ≡ true → (next ≡ w → IsWorldLeft w who request next)
    → P ⊎ IsRefused w replies.Memory reply next → MatchBool w.begun P Q ⊎ IsStarved w who request reply next
begun_or w next who request reply P Q begun left (inl p) = inl (on_true w.begun P Q begun p)
begun_or w next who request reply P Q begun left (inr starved) = inr (record { reply_is = starved.reply_is; left = left starved.same })

-- a request that the picture has begun refuses to
pub begun_refused : (w : World) (P : Type 0) → w.begun ≡ true → MatchBool w.begun (IsRefused w replies.Begun replies.Begun w) P
begun_refused w P begun = on_true w.begun _ P begun (record { reply_is = refl; same = refl })
