-- A trajectory that stood stands on where it is one of the state after an entry.
use Rattle.std.proofs.Common.{◌≡◌, ◌≢◌, ℕ, ◌+◌, ◌<◌, ◌≤◌, ◌⊎◌, inl, inr, ⊎_elim, List, [], ◌∷◌, ◌++◌, length, take, slice_get, get_or, set, Contains, Option, Some, None, is_some, true, refl, sym, ◌∙◌, ap, subst, arith, length-append, get_or-set_other, get_or-set_same}
use Rattle.std.proofs.lemmas.Bool.{cases_eq, cases_lt}
use Rattle.std.proofs.lemmas.List.{take-append-le, take_all}
use Rattle.std.proofs.lemmas.List.Elements.{All-push}
use Rattle.std.proofs.lemmas.Option.{slice_get_within}
use Rattle.mt_base.specs.declared.command.Entry.{Entry}
use Rattle.mt_base.specs.declared.conflict.Kind.{Kind}
use Rattle.mt_base.specs.Complete.{IsComplete}
use Rattle.mt_base.specs.Effect.{effect, state_of}
use Rattle.mt_base.specs.Decision.{call_of}
use Rattle.mt_base.specs.Picture.{NamedTrajectory, State, flight_of, trajectories}
use Rattle.mt_base.specs.Tables.{Setup}
use Rattle.mt_base.proofs.HistoryLemmas.{slice_get-append_left, state_of-push, version_is}
use Rattle.mt_probe.specs.declared.flight.Flight.{Flight}
use Rattle.mt_probe.specs.declared.flight.Made.{Made}
use Rattle.mt_probe.specs.Prepared.{Prepared}
use Rattle.mt_probe.specs.Putting.{IsFiledAt, records_put, with_flight}
use Rattle.mt_kept.specs.Kept.{Watched}
use Rattle.mt_probe.specs.Shot.{Shot, flight_at, made_of, records_in}
use Rattle.mt_probe.specs.Shot.{state_in_shot as state_in}
use Rattle.mt_probe.specs.Standing.{IsSoundShot}
use Rattle.mt_probe.proofs.Gathered.{at_kept}
use Rattle.mt_probe.proofs.Placed.{filled_inside, found_there}
use Rattle.mt_picture.specs.Private.Places.{all_places, made_of_kind, stamped, stamped_at}
use Rattle.mt_picture.specs.Private.Putting.{IsFlightPut}
use Rattle.mt_picture.specs.Stamps.{AreNamedLast, AreStamped, HaveFilings, IsFiling, IsMadeAt, Makes, WasFiledAt, WasNamedLastAt}
use Rattle.mt_picture.specs.Private.Stamps.{HaveStood, IsPicture}
use Rattle.mt_picture.proofs.Knowing.{kept_made}

at_end : (h : List Entry) (e : Entry) → slice_get (h ++ e ∷ []) (length h) ≡ Some e
at_end [] e = refl
at_end (f ∷ h) e = at_end h e

-- a history with one entry more, at each of its versions
take_whole : (h : List Entry) (e : Entry) (w : ℕ) → length h < w → take w (h ++ e ∷ []) ≡ h ++ e ∷ []
take_whole h e w long = take_all w (h ++ e ∷ []) (let n = length-append h (e ∷ []) in omega arith)

pub made_kept : (setup : Setup) (h : List Entry) (e : Entry) (t : NamedTrajectory) (stamp : ℕ) → IsMadeAt setup h t stamp
    → Contains (trajectories setup (state_of setup (h ++ e ∷ []))) t → IsMadeAt setup (h ++ e ∷ []) t stamp
made_kept setup h e t stamp was there =
    let n = length-append h (e ∷ []) in
    let within = was.within in
    record {
      entry = was.entry;
      made = λ i is. let m = was.made i is in (slice_get-append_left h (e ∷ []) i (omega arith) ∙ m.0, m.1);
      some = was.some;
      within = omega arith;
      stood = λ w low high. ⊎_elim
          (λ long. rw (take_whole h e w long) there)
          (λ short. let same = take-append-le w h (e ∷ []) short in rw same (was.stood w low short)) (cases_lt (length h) w);
    }

pub made_now : (setup : Setup) (h : List Entry) (e : Entry) (t : NamedTrajectory) → Makes e.command t.call t.kind
    → Contains (trajectories setup (state_of setup (h ++ e ∷ []))) t → IsMadeAt setup (h ++ e ∷ []) t (length h + 1)
made_now setup h e t makes held =
    let n = length-append h (e ∷ []) in
    record {
      entry = e;
      made = λ i is. (subst (λ (j : ℕ). slice_get (h ++ e ∷ []) j ≡ Some e) (let same : length h ≡ i = omega arith in same) (at_end h e), makes);
      some = omega arith;
      within = omega arith;
      stood = λ w low high. rw (take_whole h e w (omega arith)) held;
    }

-- ---- what filed a flight, and what names it last

-- the flight of a callsign is there after an entry
abbrev IsThereAfter : Setup → List Entry → Entry → List ℕ → Type 0
IsThereAfter setup h e call = is_some (flight_of (state_of setup (h ++ e ∷ [])).records call) ≡ true

filed_kept : (setup : Setup) (h : List Entry) (e : Entry) (call : List ℕ) (filed : ℕ) → WasFiledAt setup h call filed → IsThereAfter setup h e call
    → WasFiledAt setup (h ++ e ∷ []) call filed
filed_kept setup h e call filed was there =
    let n = length-append h (e ∷ []) in
    let within = was.within in
    record {
      entry = was.entry;
      files = λ i is. let m = was.files i is in (slice_get-append_left h (e ∷ []) i (omega arith) ∙ m.0, m.1, m.2);
      some = was.some;
      within = omega arith;
      there = λ w low high. ⊎_elim
          (λ long. rw (take_whole h e w long) there)
          (λ short. let same = take-append-le w h (e ∷ []) short in rw same (was.there w low short)) (cases_lt (length h) w);
    }

filed_now : (setup : Setup) (h : List Entry) (e : Entry) (call : List ℕ) → IsFiling e.command → call_of e.command ≡ Some call → IsThereAfter setup h e call
    → WasFiledAt setup (h ++ e ∷ []) call (length h + 1)
filed_now setup h e call files names there =
    let n = length-append h (e ∷ []) in
    record {
      entry = e;
      files = λ i is. (subst (λ (j : ℕ). slice_get (h ++ e ∷ []) j ≡ Some e) (let same : length h ≡ i = omega arith in same) (at_end h e), files, names);
      some = omega arith;
      within = omega arith;
      there = λ w low high. rw (take_whole h e w (omega arith)) there;
    }

named_kept : (h : List Entry) (e : Entry) (call : List ℕ) (named : ℕ) → WasNamedLastAt h call named → call_of e.command ≢ Some call
    → WasNamedLastAt (h ++ e ∷ []) call named
named_kept h e call named was other =
    let n = length-append h (e ∷ []) in
    let within = was.within in
    record {
      entry = was.entry;
      names = λ i is. let m = was.names i is in (slice_get-append_left h (e ∷ []) i (omega arith) ∙ m.0, m.1);
      some = was.some;
      within = omega arith;
      last = λ later. ⊎_elim
          (λ before. was.last (record {
            place = later.place;
            entry = later.entry;
            later = later.later;
            is = sym (slice_get-append_left h (e ∷ []) later.place before) ∙ later.is;
            names = later.names;
          }))
          (λ past.
          let inside = slice_get_within (h ++ e ∷ []) later.place later.entry later.is in
          let same : length h ≡ later.place = omega (arith, n, past, inside) in
          let both : Some e ≡ Some later.entry = sym (at_end h e) ∙ subst (λ (j : ℕ). slice_get (h ++ e ∷ []) j ≡ Some later.entry) (sym same) later.is in
          let one : e ≡ later.entry = cc in
          other (ap (λ (x : Entry). call_of x.command) one ∙ later.names)) (cases_lt later.place (length h));
    }

named_now : (h : List Entry) (e : Entry) (call : List ℕ) → call_of e.command ≡ Some call → WasNamedLastAt (h ++ e ∷ []) call (length h + 1)
named_now h e call names =
    let n = length-append h (e ∷ []) in
    record {
      entry = e;
      names = λ i is. (subst (λ (j : ℕ). slice_get (h ++ e ∷ []) j ≡ Some e) (let same : length h ≡ i = omega arith in same) (at_end h e), names);
      some = omega arith;
      within = omega arith;
      last = λ later.
          let inside = slice_get_within (h ++ e ∷ []) later.place later.entry later.is in
          let behind = later.later in
          omega (arith, n, inside, behind);
    }

-- the flight of a place is there in the state after an entry
there_after : (setup : Setup) (after : Shot) (h : List Entry) (e : Entry) (i : ℕ) (f : Flight) → IsSoundShot after → state_in after ≡ state_of setup (h ++ e ∷ [])
    → flight_at after i ≡ Some f → IsThereAfter setup h e f.card.call
there_after setup after h e i f sound stands at_is =
    let found = found_there after i f f.card.call sound (filled_inside after.slots i f at_is) at_is refl in
    let here : is_some (flight_of (records_in after.slots) f.card.call) ≡ true = rw found refl in
    subst (λ (s : State). is_some (flight_of s.records f.card.call) ≡ true) stands here

-- what filed the flights after an entry: each was there before, or is filed by it
pub filed_on : (setup : Setup) (after : Shot) (h : List Entry) (e : Entry) → IsSoundShot after → state_in after ≡ state_of setup (h ++ e ∷ [])
    → ((i : ℕ) (f : Flight) → flight_at after i ≡ Some f → WasFiledAt setup h f.card.call f.filed
    ⊎ (IsFiling e.command × (call_of e.command ≡ Some f.card.call) × (f.filed ≡ length h + 1)))
    → HaveFilings setup (h ++ e ∷ []) after.slots
filed_on setup after h e sound stands from i f at_is =
    let there = there_after setup after h e i f sound stands at_is in
    ⊎_elim
    (λ was. filed_kept setup h e f.card.call f.filed was there)
    (λ new. subst (λ (n : ℕ). WasFiledAt setup (h ++ e ∷ []) f.card.call n) (sym new.2) (filed_now setup h e f.card.call new.0 new.1 there))
    (from i f at_is)

-- what names them last: the entry, or what did before
pub named_on : (h : List Entry) (e : Entry) (slots : List (Option Flight)) → ((i : ℕ) (f : Flight) → get_or slots i None ≡ Some f
    → (WasNamedLastAt h f.card.call f.named × (call_of e.command ≢ Some f.card.call))
    ⊎ ((call_of e.command ≡ Some f.card.call) × (f.named ≡ length h + 1)))
    → AreNamedLast (h ++ e ∷ []) slots
named_on h e slots from i f at_is = ⊎_elim
    (λ was. named_kept h e f.card.call f.named was.0 was.1)
    (λ new. subst (λ (n : ℕ). WasNamedLastAt (h ++ e ∷ []) f.card.call n) (sym new.1) (named_now h e f.card.call new.0))
    (from i f at_is)

-- each flight was filed by the version
pub filed_early : (shot : Shot) (h : List Entry) (kept : Watched) → IsPicture shot h kept → (i : ℕ) (g : Flight) → flight_at shot i ≡ Some g → g.filed ≤ shot.version
filed_early shot h kept is i g at_is =
    let within = (is.filed i g at_is).within in
    let version = ap (λ (s : State). s.version) is.stands ∙ version_is shot.setup h in
    omega (arith, within, version)

-- ---- the stamps after an entry

-- each trajectory stood before, or is made by it
pub stamped_on : (setup : Setup) (after : Shot) (h : List Entry) (e : Entry) → IsSoundShot after → after.setup ≡ setup → state_in after ≡ state_of setup (h ++ e ∷ [])
    → ((i : ℕ) (f : Flight) (kind : Kind) (made : Made) → flight_at after i ≡ Some f → made_of f kind ≡ Some made
    → IsMadeAt setup h (made_of_kind f kind made) made.stamp ⊎ (Makes e.command f.card.call kind × (made.stamp ≡ length h + 1)))
    → AreStamped setup (h ++ e ∷ []) after.slots
stamped_on setup after h e sound same stands from i f kind made at_is made_is =
    let t = made_of_kind f kind made in
    let here : Contains (trajectories after.setup (state_in after)) t = at_kept after i f t sound at_is (kept_made f kind made made_is) in
    let with_setup : Contains (trajectories setup (state_in after)) t = subst (λ (u : Setup). Contains (trajectories u (state_in after)) t) same here in
    let there : Contains (trajectories setup (state_of setup (h ++ e ∷ []))) t = subst (λ (s : State). Contains (trajectories setup s) t) stands with_setup in
    ⊎_elim
    (λ was. made_kept setup h e t made.stamp was there)
    (λ new. subst (λ (n : ℕ). IsMadeAt setup (h ++ e ∷ []) t n) (sym new.1) (made_now setup h e t new.0 there))
    (from i f kind made at_is made_is)

-- what a slot had with its stamp was made at it
pub record IsMadeOf (slots : List (Option Flight)) (i : ℕ) (kind : Kind) (t : NamedTrajectory) (n : ℕ) : Type 0 where
  pub flight : Flight
  pub made : Made
  pub at_is : get_or slots i None ≡ Some flight
  pub made_is : made_of flight kind ≡ Some made
  pub is : made_of_kind flight kind made ≡ t
  pub stamp_is : made.stamp ≡ n

by_made : (slots : List (Option Flight)) (i : ℕ) (kind : Kind) (t : NamedTrajectory) (n : ℕ) (f : Flight) (made : Option Made) → get_or slots i None ≡ Some f
    → made_of f kind ≡ made → stamped f kind made ≡ Some (t, n) → IsMadeOf slots i kind t n
by_made slots i kind t n f None at_is made_is is = absurd (cc)
by_made slots i kind t n f (Some made) at_is made_is is =
    let e : (made_of_kind f kind made, made.stamp) ≡ (t, n) = cc in
    record {
      flight = f;
      made = made;
      at_is = at_is;
      made_is = made_is;
      is = ap (λ (m : NamedTrajectory × ℕ). m.0) e;
      stamp_is = ap (λ (m : NamedTrajectory × ℕ). m.1) e;
    }

made_by : (slots : List (Option Flight)) (i : ℕ) (kind : Kind) (t : NamedTrajectory) (n : ℕ) (s : Option Flight) → get_or slots i None ≡ s
    → stamped_at kind s ≡ Some (t, n) → IsMadeOf slots i kind t n
made_by slots i kind t n None at_is is = absurd (cc)
made_by slots i kind t n (Some f) at_is is = by_made slots i kind t n f (made_of f kind) at_is refl is

stood_at : (setup : Setup) (h : List Entry) (slots : List (Option Flight)) (i : ℕ) (kind : Kind) (t : NamedTrajectory) (n : ℕ) → AreStamped setup h slots
    → IsMadeOf slots i kind t n → IsMadeAt setup h t n
stood_at setup h slots i kind t n stamped of =
    subst (λ (u : NamedTrajectory). IsMadeAt setup h u n) of.is
    (subst (λ (k : ℕ). IsMadeAt setup h (made_of_kind of.flight kind of.made) k) of.stamp_is (stamped i of.flight kind of.made of.at_is of.made_is))

-- a flight put into a slot
module _ (shot after : Shot) (h : List Entry) (e : Entry) (slot : ℕ) (f : Flight) (stands : state_in shot ≡ state_of shot.setup h)
    (put : IsFlightPut shot slot f e) (value : after ≡ with_flight shot slot (Some f))
    (records : (state_in after).records ≡ records_put (flight_at shot slot) (Some f) (records_in shot.slots)) where
  slots_after : after.slots ≡ set shot.slots slot (Some f)
  slots_after = ap (λ (s : Shot). s.slots) value

  version_after : after.version ≡ shot.version + 1
  version_after = ap (λ (s : Shot). s.version) value

  pub stands_put : state_in after ≡ state_of shot.setup (h ++ e ∷ [])
  stands_put =
      let one : state_in after ≡ effect shot.setup (state_in shot) e = λ i. record {
        now = (ap (λ (s : Shot). s.now) value ∙ sym put.still) i;
        records = (records ∙ put.records) i;
        version = version_after i;
      } in
      one ∙ ap (λ (s : State). effect shot.setup s e) stands ∙ sym (state_of-push shot.setup h e)

  version_here : shot.version ≡ length h
  version_here = ap (λ (s : State). s.version) stands ∙ version_is shot.setup h

  -- what is in the slot, and in the others
  here_is : (i : ℕ) (g : Flight) → i ≡ slot → flight_at after i ≡ Some g → f ≡ g
  here_is i g here at_is =
      let there : get_or (set shot.slots slot (Some f)) i None ≡ Some g = rw slots_after at at_is in
      let same : Some f ≡ Some g = sym (get_or-set_same shot.slots slot (Some f) None put.inside) ∙ subst (λ (k : ℕ). get_or (set shot.slots slot (Some f)) k None ≡ Some g) here there in
      cc

  else_is : (i : ℕ) (g : Flight) → i ≢ slot → flight_at after i ≡ Some g → flight_at shot i ≡ Some g
  else_is i g away at_is =
      let there : get_or (set shot.slots slot (Some f)) i None ≡ Some g = rw slots_after at at_is in
      sym (get_or-set_other shot.slots slot i (Some f) None away) ∙ there

  own : AreStamped shot.setup h shot.slots → (kind : Kind) (made : Made) → made_of f kind ≡ Some made
      → IsMadeAt shot.setup h (made_of_kind f kind made) made.stamp ⊎ (Makes e.command f.card.call kind × (made.stamp ≡ length h + 1))
  own all kind made is = ⊎_elim
      (λ new. let n = version_here in let s = new made is in inr (record { names = put.names; makes = s.1; kind_is = s.2 }, s.0 ∙ ap (λ (v : ℕ). v + 1) n))
      (λ stays.
      let mine : stamped_at kind (Some f) ≡ Some (made_of_kind f kind made, made.stamp) = ap (stamped f kind) is in
      inl (stood_at shot.setup h shot.slots slot kind (made_of_kind f kind made) made.stamp all
      (made_by shot.slots slot kind (made_of_kind f kind made) made.stamp (flight_at shot slot) refl (sym stays ∙ mine))))
      (put.made kind)

  pub stamped_put : IsSoundShot after → AreStamped shot.setup h shot.slots → AreStamped shot.setup (h ++ e ∷ []) after.slots
  stamped_put sound all =
      stamped_on shot.setup after h e sound (ap (λ (s : Shot). s.setup) value) stands_put
      (λ i g kind made at_is made_is. ⊎_elim
      (λ here. subst (λ (q : Flight). made_of q kind ≡ Some made
      → IsMadeAt shot.setup h (made_of_kind q kind made) made.stamp ⊎ (Makes e.command q.card.call kind × (made.stamp ≡ length h + 1)))
      (here_is i g here at_is) (own all kind made) made_is)
      (λ away. inl (all i g kind made (else_is i g away at_is) made_is))
      (cases_eq i slot))

  -- the flight keeps the filing of the one in the slot, or is filed now
  own_filing : HaveFilings shot.setup h shot.slots
      → WasFiledAt shot.setup h f.card.call f.filed ⊎ (IsFiling e.command × (call_of e.command ≡ Some f.card.call) × (f.filed ≡ length h + 1))
  own_filing all = by_old (flight_at shot slot) refl put.fits.filed where
    by_old : (old : Option Flight) → flight_at shot slot ≡ old → IsFiledAt shot slot f old
        → WasFiledAt shot.setup h f.card.call f.filed ⊎ (IsFiling e.command × (call_of e.command ≡ Some f.card.call) × (f.filed ≡ length h + 1))
    by_old None at_is filed = let now = put.filed at_is in inr (now.1, put.names, now.0 ∙ ap (λ (v : ℕ). v + 1) version_here)
    by_old (Some old) at_is filed = inl (subst (λ (n : ℕ). WasFiledAt shot.setup h f.card.call n) (sym filed)
        (subst (λ (call : List ℕ). WasFiledAt shot.setup h call old.filed) (put.was old at_is) (all slot old at_is)))

  pub picture_put : (kept new : Watched) → IsPicture shot h kept → IsComplete e → IsSoundShot after → new.rules ≡ kept.rules → new.moment ≡ kept.moment
      → new.places ≡ all_places (set shot.slots slot (Some f)) → IsPicture after (h ++ e ∷ []) new
  picture_put kept new is complete sound rules moment places =
      let setup_is : after.setup ≡ shot.setup = ap (λ (s : Shot). s.setup) value in
      record {
        stands = subst (λ (u : Setup). state_in after ≡ state_of u (h ++ e ∷ [])) (sym setup_is) stands_put;
        stamped = subst (λ (u : Setup). AreStamped u (h ++ e ∷ []) after.slots) (sym setup_is) (stamped_put sound is.stamped);
        complete = All-push IsComplete h e is.complete complete;
        filed = subst (λ (u : Setup). HaveFilings u (h ++ e ∷ []) after.slots) (sym setup_is)
            (filed_on shot.setup after h e sound stands_put (λ i g at_is. ⊎_elim
            (λ here. subst (λ (q : Flight). WasFiledAt shot.setup h q.card.call q.filed
            ⊎ (IsFiling e.command × (call_of e.command ≡ Some q.card.call) × (q.filed ≡ length h + 1))) (here_is i g here at_is) (own_filing is.filed))
            (λ away. inl (is.filed i g (else_is i g away at_is)))
            (cases_eq i slot)));
        named = named_on h e after.slots (λ i g at_is. ⊎_elim
            (λ here. subst (λ (q : Flight). (WasNamedLastAt h q.card.call q.named × (call_of e.command ≢ Some q.card.call))
            ⊎ ((call_of e.command ≡ Some q.card.call) × (q.named ≡ length h + 1))) (here_is i g here at_is)
            (inr (put.names, put.named ∙ ap (λ (v : ℕ). v + 1) version_here)))
            (λ away.
            let there = else_is i g away at_is in
            inl (is.named i g there, λ same. put.fits.own_call i g away there (let both : Some f.card.call ≡ Some g.card.call = sym put.names ∙ same in cc)))
            (cases_eq i slot));
        rules_are = rules ∙ is.rules_are ∙ ap (λ (u : Setup). u.rules) (sym setup_is);
        moment_is = moment ∙ is.moment_is ∙ ap (λ (s : Shot). s.now) (sym value);
        places_are = places ∙ ap all_places (sym slots_after);
      }

-- what a prep of an earlier version found was there
pub have_stood : (shot : Shot) (h : List Entry) (p : Prepared) → AreStamped shot.setup h shot.slots → p.setup ≡ shot.setup → p.state.version ≤ length h
    → p.state ≡ state_of shot.setup (take p.state.version h) → HaveStood shot p
have_stood shot h p stamped setup_is within state_is i f kind made at_is made_is early =
    let t = made_of_kind f kind made in
    let stood = (stamped i f kind made at_is made_is).stood p.state.version early within in
    let there : Contains (trajectories shot.setup p.state) t = subst (λ (s : State). Contains (trajectories shot.setup s) t) (sym state_is) stood in
    subst (λ (u : Setup). Contains (trajectories u p.state) t) (sym setup_is) there
