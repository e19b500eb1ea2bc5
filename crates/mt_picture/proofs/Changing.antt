-- What a change of a slot puts into its places.
use Rattle.std.proofs.Common.{◌≡◌, ℕ, ◌/◌, ◌<◌, ◌⊎◌, ⊎_elim, inl, inr, length, List, [], ◌∷◌, set, Option, Some, None, true, false, get_or, option_map, refl, sym, ◌∙◌, ap, subst, arith, get_or-set_other, get_or-set_same}
use Rattle.std.specs.Prelude.{All, IfSome, is_some, option_and_then}
use Rattle.std.specs.Arc.{arc_value}
use Rattle.std.proofs.lemmas.Bool.{cases_eq}
use Rattle.std.proofs.lemmas.List.Elements.{All-push}
use Rattle.mt_base.specs.declared.conflict.Kind.{Kind}
use Rattle.mt_base.specs.declared.conflict.Kind.TheVariants.{Actual, Tentative}
use Rattle.mt_base.specs.declared.rules.Rules.{Rules}
use Rattle.mt_base.specs.Picture.{NamedTrajectory}
use Rattle.mt_base.proofs.Members.{Contains-cases, Contains-head, Contains-none}
use Rattle.mt_kept.specs.declared.changes.PlaceChange.{PlaceChange}
use Rattle.mt_kept.specs.declared.open_pair.OpenPair.{OpenPair}
use Rattle.mt_kept.specs.Finds.{Agree, AreFindsAt, AreFindsOfPlaces}
use Rattle.mt_kept.specs.Places.{at, seen}
use Rattle.mt_kept.proofs.Joining.{finds_none, finds_one}
use Rattle.mt_probe.specs.declared.flight.Flight.{Flight}
use Rattle.mt_probe.specs.declared.flight.Made.{Made}
use Rattle.mt_cover.specs.Sliced.{slices_of}
use Rattle.mt_probe.specs.Items.{kind_at, path_of}
use Rattle.mt_probe.specs.Meeting.{slices_by}
use Rattle.mt_probe.specs.Putting.{IsKindKept, made_beside}
use Rattle.mt_probe.specs.Shot.{Shot, flight_at, made_of}
use Rattle.mt_picture.specs.declared.change.SlotChange.{SlotChange}
use Rattle.mt_picture.specs.Private.Brought.{IsChangeFor}
use Rattle.mt_picture.specs.Private.Places.{all_places, first_of, made_of_kind, other_kind, place_in, place_kind, places_put, second_of}
use Rattle.mt_picture.proofs.Slotted.{at_any, at_place, both_set, kind_made_of, one_set, place_inside}

-- ---- the trajectory of a kind of a flight

by_made : (f : Flight) (kind : Kind) (made : Option Made) (t : NamedTrajectory) → option_map (made_of_kind f kind) made ≡ Some t → t.call ≡ f.card.call
by_made f kind None t is = absurd (cc)
by_made f kind (Some m) t is = let e : made_of_kind f kind m ≡ t = cc in ap (λ (u : NamedTrajectory). u.call) (sym e)

pub kind_call : (f : Flight) (kind : Kind) (t : NamedTrajectory) → place_kind kind (Some f) ≡ Some t → t.call ≡ f.card.call
kind_call f kind t is = by_made f kind (made_of f kind) t (sym (kind_made_of f kind) ∙ is)

was_call : (x : Option Flight) (kind : Kind) (call : List ℕ) → ((g : Flight) → x ≡ Some g → g.card.call ≡ call) → (t : NamedTrajectory) → place_kind kind x ≡ Some t → t.call ≡ call
was_call None Actual call was t is = absurd (cc)
was_call None Tentative call was t is = absurd (cc)
was_call (Some g) kind call was t is = kind_call g kind t is ∙ was g refl

path_made_of : (made : Option Made) (f : Flight) (kind : Kind) → option_map (λ (m : Made). arc_value m.strand) made
    ≡ option_map (λ (t : NamedTrajectory). t.path) (option_map (made_of_kind f kind) made)
path_made_of None f kind = refl
path_made_of (Some m) f kind = refl

kind_path : (kind : Kind) (x : Option Flight) → option_and_then (path_of kind) x ≡ option_map (λ (t : NamedTrajectory). t.path) (place_kind kind x)
kind_path Actual None = refl
kind_path Tentative None = refl
kind_path kind (Some f) = path_made_of (made_of f kind) f kind ∙ ap (option_map (λ (t : NamedTrajectory). t.path)) (sym (kind_made_of f kind))

kind_by : (f : Flight) (kind : Kind) (made : Option Made) (t : NamedTrajectory) → option_map (made_of_kind f kind) made ≡ Some t → t.kind ≡ kind
kind_by f kind None t is = absurd (cc)
kind_by f kind (Some m) t is = let e : made_of_kind f kind m ≡ t = cc in ap (λ (u : NamedTrajectory). u.kind) (sym e)

pub kind_own : (f : Flight) (kind : Kind) (t : NamedTrajectory) → place_kind kind (Some f) ≡ Some t → t.kind ≡ kind
kind_own f kind t is = kind_by f kind (made_of f kind) t (sym (kind_made_of f kind) ∙ is)

-- ---- whether a flight has one of a kind

pub some_map : {X Y : Type 0} (f : X → Y) (x : Option X) → is_some (option_map f x) ≡ is_some x
some_map f None = refl
some_map f (Some x) = refl

pub has_other : (f : Flight) (kind : Kind) (old : Option Flight) → ((m : NamedTrajectory) → place_kind kind (Some f) ≡ Some m → place_kind kind old ≡ Some m)
    → is_some (made_of f kind) ≡ true → place_kind kind (Some f) ≡ place_kind kind old
has_other f kind old other has = by_case (made_of f kind) (kind_made_of f kind) has where
  by_case : (made : Option Made) → place_kind kind (Some f) ≡ option_map (made_of_kind f kind) made → is_some made ≡ true → place_kind kind (Some f) ≡ place_kind kind old
  by_case None is some = absurd (cc)
  by_case (Some m) is some = is ∙ sym (other (made_of_kind f kind m) is)

pub has_none : (f : Flight) (kind : Kind) → is_some (made_of f kind) ≡ false → place_kind kind (Some f) ≡ None
has_none f kind none = kind_made_of f kind ∙ by_case (made_of f kind) none where
  by_case : (made : Option Made) → is_some made ≡ false → option_map (made_of_kind f kind) made ≡ None
  by_case None is = refl
  by_case (Some m) is = absurd (cc)

pub had_none : (x : Option Flight) (kind : Kind) → is_some (option_map (λ (m : Made). m.strand) (option_and_then (λ f. made_of f kind) x)) ≡ false → place_kind kind x ≡ None
had_none None Actual none = refl
had_none None Tentative none = refl
had_none (Some f) kind none = has_none f kind (sym (some_map (λ (m : Made). m.strand) (made_of f kind)) ∙ none)

-- ---- the change of a slot

-- the slices of a flight's trajectory of a kind
slices_kind : (rules : Rules) (kind : Kind) (f : Flight)
    → slices_by rules kind (Some f) ≡ option_map (λ (t : NamedTrajectory). slices_of rules t.path) (place_kind kind (Some f))
slices_kind rules Actual f = refl
slices_kind rules Tentative f = by_mark f.mark where
  by_mark : (mark : Option Made) → option_map (slices_of rules) (option_map (λ (m : Made). arc_value m.strand) mark)
      ≡ option_map (λ (t : NamedTrajectory). slices_of rules t.path) (option_map (made_of_kind f Tentative) mark)
  by_mark None = refl
  by_mark (Some m) = refl

pub slices_new : (rules : Rules) (kind : Kind) (f : Flight) (mine : NamedTrajectory) → place_kind kind (Some f) ≡ Some mine
    → slices_by rules kind (Some f) ≡ Some (slices_of rules mine.path)
slices_new rules kind f mine is = slices_kind rules kind f ∙ ap (option_map (λ (t : NamedTrajectory). slices_of rules t.path)) is

-- the kind that is new is the one beside that which stays
abbrev IsBeside : Flight → Kind → Option Kind → Type 0
IsBeside f kind stays = (stays ≡ Some (other_kind kind)) ⊎ ((stays ≡ None) × (place_kind (other_kind kind) (Some f) ≡ None))

made_is : (f : Flight) (kind : Kind) (stays : Option Kind) → IsBeside f kind stays → made_beside stays ≡ kind
made_is f Actual stays (inl one) = ap made_beside one
made_is f Tentative stays (inl one) = ap made_beside one
made_is f Actual stays (inr none) = ap made_beside none.0
made_is f Tentative stays (inr (none, gone)) = absurd (cc)

all_one : {X : Type 0} (P : X → Type 0) (x : X) → P x → All P (x ∷ [])
all_one P x is = All-push P [] x (λ k d below. absurd (omega arith)) is

module _ (shot : Shot) (slot : ℕ) (inside : slot < length shot.slots) where
  -- a kind whose place has what it had
  pub kind_stays : (x : Option Flight) (kind : Kind) → place_kind kind x ≡ place_kind kind (flight_at shot slot) → IsKindKept shot slot x kind
  kind_stays x kind same = kind_path kind x ∙ ap (option_map (λ (t : NamedTrajectory). t.path)) same ∙ sym (kind_path kind (flight_at shot slot))

  at_put : (x : Option Flight) (kind : Kind) → at (places_put shot slot x) (place_in slot kind) ≡ place_kind kind x
  at_put x kind = at_place (set shot.slots slot x) slot kind ∙ ap (place_kind kind) (get_or-set_same shot.slots slot x None inside)

  -- what is new in a place of the slot leaves the places of other flights as they are
  pub agree_put : (f : Flight) (kind : Kind) (mine : NamedTrajectory) → ((g : Flight) → flight_at shot slot ≡ Some g → g.card.call ≡ f.card.call)
      → place_kind kind (Some f) ≡ Some mine → Agree (all_places shot.slots) (places_put shot slot (Some f)) (place_in slot kind) mine
  agree_put f kind mine was is = record {
    here = at_put (Some f) kind ∙ is;
    there = λ i t away apart.
        let now_is = at_any (set shot.slots slot (Some f)) i in
        let was_is = at_any shot.slots i in
        ⊎_elim
        (λ own.
        let now_own : place_kind (kind_at i) (get_or (set shot.slots slot (Some f)) (i / 2) None) ≡ place_kind (kind_at i) (Some f) =
        ap (λ (k : ℕ). place_kind (kind_at i) (get_or (set shot.slots slot (Some f)) k None)) own ∙ ap (place_kind (kind_at i)) (get_or-set_same shot.slots slot (Some f) None inside) in
        let was_own = ap (λ (k : ℕ). place_kind (kind_at i) (get_or shot.slots k None)) own in (
          (λ now. absurd (apart (kind_call f kind mine is ∙ sym (kind_call f (kind_at i) t (sym (now_is ∙ now_own) ∙ now))))),
          (λ before. absurd (apart (kind_call f kind mine is ∙ sym (was_call (flight_at shot slot) (kind_at i) f.card.call was t (sym (was_is ∙ was_own) ∙ before))))),
        ))
        (λ other.
        let same = now_is ∙ ap (place_kind (kind_at i)) (get_or-set_other shot.slots slot (i / 2) (Some f) None other) ∙ sym was_is in (
          (λ now. sym same ∙ now),
          (λ before. same ∙ before),
        ))
        (cases_eq (i / 2) slot);
  }

  abbrev Within : PlaceChange → Type 0
  Within c = c.place < length (all_places shot.slots)

  abbrev AreSliced : Option Flight → SlotChange → Kind → Type 0
  AreSliced x change kind = IfSome change.slices (λ s. Some (arc_value s) ≡ slices_by shot.setup.rules kind x)

  abbrev Finds : Option Flight → List ℕ → List OpenPair → Type 0
  Finds x changed finds = AreFindsOfPlaces shot.setup.rules (places_put shot slot x) shot.now changed finds

  -- one place changes
  one_changes : (x : Option Flight) (kind : Kind) (c : PlaceChange) (change : SlotChange) → change.changes.items ≡ c ∷ [] → c.place ≡ place_in slot kind
      → seen c.item ≡ place_kind kind x → place_kind (other_kind kind) x ≡ place_kind (other_kind kind) (flight_at shot slot)
      → Finds x (place_in slot kind ∷ []) change.finds.items → IfSome change.stays (IsKindKept shot slot x) → AreSliced x change (made_beside change.stays)
      → IsChangeFor shot slot x change
  one_changes x kind c change items place item other finds stays sliced =
      let within = subst (λ (n : ℕ). n < length (all_places shot.slots)) (sym place) (place_inside shot.slots slot kind inside) in
      record {
        inside = subst (All Within) (sym items) (all_one Within c within);
        places_are = rw (items, place, item) (one_set shot.slots slot x kind inside other);
        finds_are = rw (items, place) finds;
        stays_is = stays;
        slices_are = sliced;
      }

  -- both do
  both_change : (x : Option Flight) (c d : PlaceChange) (change : SlotChange) → change.changes.items ≡ c ∷ d ∷ [] → c.place ≡ place_in slot Actual
      → d.place ≡ place_in slot Tentative → seen c.item ≡ first_of x → seen d.item ≡ second_of x
      → Finds x (place_in slot Actual ∷ place_in slot Tentative ∷ []) change.finds.items → change.stays ≡ None → AreSliced x change Actual
      → IsChangeFor shot slot x change
  both_change x c d change items first second c_item d_item finds stays sliced =
      let c_within = subst (λ (n : ℕ). n < length (all_places shot.slots)) (sym first) (place_inside shot.slots slot Actual inside) in
      let d_within = subst (λ (n : ℕ). n < length (all_places shot.slots)) (sym second) (place_inside shot.slots slot Tentative inside) in
      record {
        inside = subst (All Within) (sym items) (All-push Within (c ∷ []) d (all_one Within c c_within) d_within);
        places_are = rw (items, first, c_item, second, d_item) (both_set shot.slots slot x inside);
        finds_are = rw (items, first, second) finds;
        stays_is = rw stays tt;
        slices_are = rw stays sliced;
      }

  -- what was found for what is new in one place
  pub found_put : (f : Flight) (kind : Kind) (mine : NamedTrajectory) (place : ℕ) (finds : List OpenPair)
      → ((g : Flight) → flight_at shot slot ≡ Some g → g.card.call ≡ f.card.call) → place_kind kind (Some f) ≡ Some mine → place ≡ place_in slot kind
      → ((after : List (Option NamedTrajectory)) → Agree (all_places shot.slots) after place mine → AreFindsAt shot.setup.rules after shot.now place finds)
      → AreFindsAt shot.setup.rules (places_put shot slot (Some f)) shot.now (place_in slot kind) finds
  found_put f kind mine place finds was is place_is found =
      subst (λ (p : ℕ). AreFindsAt shot.setup.rules (places_put shot slot (Some f)) shot.now p finds) place_is (found (places_put shot slot (Some f))
      (subst (λ (p : ℕ). Agree (all_places shot.slots) (places_put shot slot (Some f)) p mine) (sym place_is) (agree_put f kind mine was is)))

  found_one : (x : Option Flight) (kind : Kind) (finds : List OpenPair) → AreFindsAt shot.setup.rules (places_put shot slot x) shot.now (place_in slot kind) finds
      → Finds x (place_in slot kind ∷ []) finds
  found_one x kind finds found = finds_one shot.setup.rules (places_put shot slot x) shot.now (place_in slot kind ∷ []) (place_in slot kind) finds
      (Contains-head (place_in slot kind) [])
      (λ i held away. absurd (⊎_elim (λ same. away (sym same)) (λ none. Contains-none i none) (Contains-cases (place_in slot kind) [] i held))) found

  -- one trajectory is new, and the other one stays, goes, or isn't there
  pub new_stays : (f : Flight) (kind : Kind) (c : PlaceChange) (change : SlotChange) → change.changes.items ≡ c ∷ [] → c.place ≡ place_in slot kind
      → seen c.item ≡ place_kind kind (Some f) → place_kind (other_kind kind) (Some f) ≡ place_kind (other_kind kind) (flight_at shot slot)
      → AreFindsAt shot.setup.rules (places_put shot slot (Some f)) shot.now (place_in slot kind) change.finds.items
      → IsBeside f kind change.stays → AreSliced (Some f) change kind → IsChangeFor shot slot (Some f) change
  new_stays f kind c change items place item other finds stays sliced = one_changes (Some f) kind c change items place item other
      (found_one (Some f) kind change.finds.items finds) (⊎_elim (λ one. rw one (kind_stays (Some f) (other_kind kind) other)) (λ none. rw none.0 tt) stays)
      (subst (AreSliced (Some f) change) (sym (made_is f kind change.stays stays)) sliced)

  pub new_goes : (f : Flight) (kind : Kind) (c d : PlaceChange) (change : SlotChange) → change.changes.items ≡ c ∷ d ∷ [] → c.place ≡ place_in slot kind
      → d.place ≡ place_in slot (other_kind kind) → seen c.item ≡ place_kind kind (Some f) → d.item ≡ None → place_kind (other_kind kind) (Some f) ≡ None
      → AreFindsAt shot.setup.rules (places_put shot slot (Some f)) shot.now (place_in slot kind) change.finds.items → change.stays ≡ None
      → AreSliced (Some f) change kind → IsChangeFor shot slot (Some f) change
  new_goes f Tentative c d change items place other item none gone finds stays sliced = absurd (cc)
  new_goes f Actual c d change items place other item none gone finds stays sliced = both_change (Some f) c d change items place other item (ap seen none ∙ sym gone)
      (finds_one shot.setup.rules (places_put shot slot (Some f)) shot.now (place_in slot Actual ∷ place_in slot Tentative ∷ []) (place_in slot Actual) change.finds.items
      (Contains-head (place_in slot Actual) (place_in slot Tentative ∷ []))
      (λ i held away. ⊎_elim
      (λ same. absurd (away (sym same)))
      (λ later. ⊎_elim
      (λ same. ap (at (places_put shot slot (Some f))) (sym same) ∙ at_put (Some f) Tentative ∙ gone)
      (λ none. absurd (Contains-none i none))
      (Contains-cases (place_in slot Tentative) [] i later))
      (Contains-cases (place_in slot Actual) (place_in slot Tentative ∷ []) i held)) finds) stays sliced

  -- the tentative trajectory is taken away
  pub mark_goes : (f : Flight) (c : PlaceChange) (change : SlotChange) → change.changes.items ≡ c ∷ [] → c.place ≡ place_in slot Tentative → c.item ≡ None
      → change.finds.items ≡ [] → change.stays ≡ Some Actual → first_of (Some f) ≡ first_of (flight_at shot slot) → second_of (Some f) ≡ None
      → change.slices ≡ None → IsChangeFor shot slot (Some f) change
  mark_goes f c change items place item finds stays first bare sliced = one_changes (Some f) Tentative c change items place (ap seen item ∙ sym bare) first
      (rw finds (finds_none shot.setup.rules (places_put shot slot (Some f)) shot.now (place_in slot Tentative ∷ []) (λ i held. ⊎_elim
      (λ same. ap (at (places_put shot slot (Some f))) (sym same) ∙ at_put (Some f) Tentative ∙ bare)
      (λ none. absurd (Contains-none i none))
      (Contains-cases (place_in slot Tentative) [] i held))))
      (rw stays (kind_stays (Some f) Actual first)) (rw sliced tt)

  -- the flight is
  pub flight_goes : (c d : PlaceChange) (change : SlotChange) → change.changes.items ≡ c ∷ d ∷ [] → c.place ≡ place_in slot Actual
      → d.place ≡ place_in slot Tentative → c.item ≡ None → d.item ≡ None → change.finds.items ≡ [] → change.stays ≡ None → change.slices ≡ None
      → IsChangeFor shot slot None change
  flight_goes c d change items first second c_item d_item finds stays sliced = both_change None c d change items first second (ap seen c_item) (ap seen d_item)
      (rw finds (finds_none shot.setup.rules (places_put shot slot None) shot.now (place_in slot Actual ∷ place_in slot Tentative ∷ []) (λ i held. ⊎_elim
      (λ same. ap (at (places_put shot slot None)) (sym same) ∙ at_put None Actual)
      (λ later. ⊎_elim
      (λ same. ap (at (places_put shot slot None)) (sym same) ∙ at_put None Tentative)
      (λ none. absurd (Contains-none i none))
      (Contains-cases (place_in slot Tentative) [] i later))
      (Contains-cases (place_in slot Actual) (place_in slot Tentative ∷ []) i held)))) stays (rw sliced tt)
