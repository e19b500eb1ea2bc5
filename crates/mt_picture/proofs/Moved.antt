-- The picture after a tick and after a drop.
use Rattle.std.proofs.Common.{◌≡◌, ◌≢◌, ℕ, ◌+◌, ◌<◌, inl, List, [], ◌∷◌, ◌++◌, length, get_or, set, not, Option, Some, None, IfSome, refl, sym, ◌∙◌, ap, subst, arith, get_or-set_other, get_or-set_same}
use Rattle.std.specs.List.{filter}
use Rattle.std.specs.Str.{bytes_eq}
use Rattle.std.proofs.lemmas.List.Elements.{All-push}
use Rattle.mt_base.specs.declared.command.Command.{Command}
use Rattle.mt_base.specs.declared.command.Command.TheVariants.{Drop, Tick}
use Rattle.mt_base.specs.declared.command.Entry.{Entry}
use Rattle.mt_base.specs.declared.flight.Record.{Record}
use Rattle.mt_base.specs.declared.rules.Rules.{Rules}
use Rattle.mt_base.specs.Complete.{IsComplete}
use Rattle.mt_base.specs.Effect.{effect, state_of}
use Rattle.mt_base.specs.Picture.{NamedTrajectory, State}
use Rattle.mt_base.specs.Tables.{Setup}
use Rattle.mt_base.proofs.HistoryLemmas.{state_of-push}
use Rattle.mt_kept.specs.Kept.{Watched}
use Rattle.mt_kept.specs.Window.{WasTestedOnce}
use Rattle.mt_probe.specs.declared.flight.Flight.{Flight}
use Rattle.mt_probe.specs.Putting.{Fits, records_put, with_flight, with_moment}
use Rattle.mt_probe.proofs.Placed.{filled_inside}
use Rattle.mt_probe.specs.Shot.{Shot, flight_at, records_in}
use Rattle.mt_probe.specs.Shot.{state_in_shot as state_in}
use Rattle.mt_probe.specs.Standing.{IsSoundShot}
use Rattle.mt_picture.specs.Private.Places.{all_places}
use Rattle.mt_picture.specs.Private.Stamps.{IsPicture}
use Rattle.mt_picture.specs.Stamps.{AreStamped, HaveFilings}
use Rattle.mt_picture.specs.Private.Putting.{IsSlotPut}
use Rattle.mt_picture.proofs.Entered.{there}
use Rattle.mt_picture.proofs.Standing.{filed_on, named_on, picture_put, stamped_on}

pub picture_tick : (shot after : Shot) (h : List Entry) (who now : ℕ) (kept new : Watched) → IsPicture shot h kept
    → IsComplete (record { who = who; command = Tick now }) → IsSoundShot after → after ≡ with_moment shot now → new.rules ≡ kept.rules → new.moment ≡ now → new.places ≡ kept.places
    → IsPicture after (h ++ record { who = who; command = Tick now } ∷ []) new
picture_tick shot after h who now kept new is complete sound_after value rules moment places =
    let e : Entry = record { who = who; command = Tick now } in
    let setup_is : after.setup ≡ shot.setup = ap (λ (s : Shot). s.setup) value in
    let slots_are : after.slots ≡ shot.slots = ap (λ (s : Shot). s.slots) value in
    let now_is : after.now ≡ now = ap (λ (s : Shot). s.now) value in
    let version_is : after.version ≡ shot.version + 1 = ap (λ (s : Shot). s.version) value in
    let one : state_in after ≡ effect shot.setup (state_in shot) e = ap state_in value in
    let stands : state_in after ≡ state_of shot.setup (h ++ e ∷ []) = one ∙ ap (λ (s : State). effect shot.setup s e) is.stands ∙ sym (state_of-push shot.setup h e) in
    let stamped = stamped_on shot.setup after h e sound_after setup_is stands
    (λ i f kind made at_is made_is. inl (is.stamped i f kind made (rw slots_are at at_is) made_is)) in
    record {
      stands = subst (λ (u : Setup). state_in after ≡ state_of u (h ++ e ∷ [])) (sym setup_is) stands;
      stamped = subst (λ (u : Setup). AreStamped u (h ++ e ∷ []) after.slots) (sym setup_is) stamped;
      complete = All-push IsComplete h e is.complete complete;
      filed = subst (λ (u : Setup). HaveFilings u (h ++ e ∷ []) after.slots) (sym setup_is)
          (filed_on shot.setup after h e sound_after stands (λ i g at_is. inl (is.filed i g (rw slots_are at at_is))));
      named = named_on h e after.slots (λ i g at_is. inl (is.named i g (rw slots_are at at_is), λ same. (let both : None ≡ Some g.card.call = same in cc)));
      rules_are = rules ∙ is.rules_are ∙ ap (λ (u : Setup). u.rules) (sym setup_is);
      moment_is = moment ∙ sym now_is;
      places_are = places ∙ is.places_are ∙ ap all_places (sym slots_are);
    }

pub picture_drop : (shot after : Shot) (h : List Entry) (who slot : ℕ) (call : List ℕ) (old : Flight) (kept new : Watched) → IsPicture shot h kept
    → IsComplete (record { who = who; command = Drop call }) → IsSoundShot shot → IsSoundShot after → slot < length shot.slots → flight_at shot slot ≡ Some old → old.card.call ≡ call → after ≡ with_flight shot slot None
    → (state_in after).records ≡ records_put (flight_at shot slot) None (records_in shot.slots)
    → new.rules ≡ kept.rules → new.moment ≡ kept.moment → new.places ≡ all_places (set shot.slots slot None)
    → IsPicture after (h ++ record { who = who; command = Drop call } ∷ []) new
picture_drop shot after h who slot call old kept new is complete sound sound_after inside at own value put rules moment places =
    let e : Entry = record { who = who; command = Drop call } in
    let setup_is : after.setup ≡ shot.setup = ap (λ (s : Shot). s.setup) value in
    let slots_are : after.slots ≡ set shot.slots slot None = ap (λ (s : Shot). s.slots) value in
    let version_is : after.version ≡ shot.version + 1 = ap (λ (s : Shot). s.version) value in
    let taken : (state_in after).records ≡ filter (λ (flight : Record). not (bytes_eq flight.call call)) (records_in shot.slots) =
    (rw (at, own) at put) in
    let one : state_in after ≡ effect shot.setup (state_in shot) e = λ i. record {
      now = (ap (λ (s : Shot). s.now) value) i;
      records = taken i;
      version = version_is i;
    } in
    let stands : state_in after ≡ state_of shot.setup (h ++ e ∷ []) = one ∙ ap (λ (s : State). effect shot.setup s e) is.stands ∙ sym (state_of-push shot.setup h e) in
    let there : (i : ℕ) (g : Flight) → flight_at after i ≡ Some g → get_or (set shot.slots slot None) i None ≡ Some g = (λ i g at_is. rw slots_are at at_is) in
    let away : (i : ℕ) (g : Flight) → flight_at after i ≡ Some g → i ≢ slot = (λ i g at_is here.
    let none : None ≡ Some g = sym (get_or-set_same shot.slots slot None None inside) ∙ subst (λ (k : ℕ). get_or (set shot.slots slot None) k None ≡ Some g) here (there i g at_is) in cc) in
    let from : (i : ℕ) (g : Flight) → flight_at after i ≡ Some g → flight_at shot i ≡ Some g =
    (λ i g at_is. sym (get_or-set_other shot.slots slot i None None (away i g at_is)) ∙ there i g at_is) in
    let stamped = stamped_on shot.setup after h e sound_after setup_is stands
    (λ i f kind made at_is made_is. inl (is.stamped i f kind made (from i f at_is) made_is)) in
    record {
      stands = subst (λ (u : Setup). state_in after ≡ state_of u (h ++ e ∷ [])) (sym setup_is) stands;
      stamped = subst (λ (u : Setup). AreStamped u (h ++ e ∷ []) after.slots) (sym setup_is) stamped;
      complete = All-push IsComplete h e is.complete complete;
      filed = subst (λ (u : Setup). HaveFilings u (h ++ e ∷ []) after.slots) (sym setup_is)
          (filed_on shot.setup after h e sound_after stands (λ i g at_is. inl (is.filed i g (from i g at_is))));
      named = named_on h e after.slots (λ i g at_is. inl (
        is.named i g (from i g at_is),
        λ same.
            (sound.apart i slot g old (away i g at_is) (from i g at_is) at).calls
            (let both : Some call ≡ Some g.card.call = same in let one : call ≡ g.card.call = cc in sym one ∙ sym own),
      ));
      rules_are = rules ∙ is.rules_are ∙ ap (λ (u : Setup). u.rules) (sym setup_is);
      moment_is = moment ∙ is.moment_is ∙ ap (λ (s : Shot). s.now) (sym value);
      places_are = places ∙ ap all_places (sym slots_are);
    }

-- no test was made
pub none_tested : (rules : Rules) (places : List (Option NamedTrajectory)) (now count : ℕ) → WasTestedOnce rules places now count count
none_tested rules places now count =
    record { edges = []; distinct = (λ i j d before below. absurd (omega arith)); each = (λ k d below. absurd (omega arith)); is = refl }

-- ---- a flight that is put into a slot, or taken away

pub put_inside : (shot : Shot) (slot : ℕ) (x : Option Flight) (e : Entry) → IsSlotPut shot slot x e → slot < length shot.slots
put_inside shot slot (Some f) e put = put.inside
put_inside shot slot None e taken =
    let it = there (flight_at shot slot) taken.call taken.there in filled_inside shot.slots slot it.flight it.at_is

pub put_fits : (shot : Shot) (slot : ℕ) (x : Option Flight) (e : Entry) → IsSlotPut shot slot x e → IfSome x (Fits shot slot)
put_fits shot slot (Some f) e put = put.fits
put_fits shot slot None e taken = tt

pub picture_slot : (shot after : Shot) (h : List Entry) (e : Entry) (slot : ℕ) (x : Option Flight) (kept new : Watched) → IsPicture shot h kept
    → IsSlotPut shot slot x e → IsComplete e → IsSoundShot shot → IsSoundShot after → after ≡ with_flight shot slot x
    → (state_in after).records ≡ records_put (flight_at shot slot) x (records_in shot.slots)
    → new.rules ≡ kept.rules → new.moment ≡ kept.moment → new.places ≡ all_places (set shot.slots slot x) → IsPicture after (h ++ e ∷ []) new
picture_slot shot after h e slot (Some f) kept new is put complete sound sound_after value records rules moment places =
    picture_put shot after h e slot f is.stands put value records kept new is complete sound_after rules moment places
picture_slot shot after h e slot None kept new is taken complete sound sound_after value records rules moment places =
    let it = there (flight_at shot slot) taken.call taken.there in
    let inside = filled_inside shot.slots slot it.flight it.at_is in
    let whole : e ≡ record { who = e.who; command = Drop taken.call } = ap (λ (c : Command). let q : Entry = record { who = e.who; command = c } in q) taken.drops in
    subst (λ (q : Entry). IsPicture after (h ++ q ∷ []) new) (sym whole)
    (picture_drop shot after h e.who slot taken.call it.flight kept new is (subst IsComplete whole complete) sound sound_after inside it.at_is it.own value records
    rules moment places)
