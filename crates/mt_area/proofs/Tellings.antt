-- What is told, one step more at a time.
use Rattle.std.proofs.Common.{◌≡◌, ℕ, ◌<◌, ◌⊎◌, inl, inr, ⊎_elim, ◌↔◌, List, [], ◌∷◌, ◌++◌, None, Contains, Result, Ok, Err, IfOk, length, map, get_or, refl, sym, ◌∙◌, ap, subst, arith}
use Rattle.std.proofs.lemmas.List.{get_or_default, get_or-map, length-map, map-append}
use Rattle.std.proofs.lemmas.List.Elements.{Contains-append_left, Contains-get_or, Contains-push, Contains-push_cases}
use Rattle.std.specs.List.Sorted.{IsStrictlySortedBy}
use Rattle.std.specs.Prelude.{slice_index_or}
use Rattle.mt_memory.specs.declared.Memory.{Memory}
use Rattle.mt_base.specs.declared.area.Area.{Area}
use Rattle.mt_base.specs.declared.area.Pierced.{Pierced}
use Rattle.mt_base.specs.Area.{IsInsideSecond, IsPierce}
use Rattle.mt_base.specs.Picture.{NamedTrajectory, window_end}
use Rattle.mt_base.specs.Pierced.{ArePiercedOf, IsPiercedBy, IsPiercedBySome, pierced_cmp}
use Rattle.mt_base.specs.Span.{IsSpanOf}
use Rattle.mt_base.proofs.Members.{Contains-map, Contains-map_cases, Contains-none}
use Rattle.mt_track.specs.declared.roster.Item.{Item}
use Rattle.mt_track.specs.Named.{named}
use Rattle.mt_area.specs.Private.Telling.{AddsPierced, AreOfAll, IsInOne, IsPiercedByOne}

-- nothing, one more, and one step after another
pub Adds-none : (P : Pierced → Type 0) (ps : List Pierced) → ((p : Pierced) → ¬ P p) → AddsPierced P ps ps
Adds-none P ps none = λ p. ((λ held. inl held), (λ either. ⊎_elim (λ held. held) (λ is. absurd (none p is)) either))

pub Adds-one : (P : Pierced → Type 0) (ps : List Pierced) (one : Pierced) → P one → ((p : Pierced) → P p → one ≡ p) → AddsPierced P ps (ps ++ one ∷ [])
Adds-one P ps one is only = λ p. (
  (λ held. ⊎_elim (λ before. inl before) (λ e. inr (subst P e is)) (Contains-push_cases ps one p held)),
  (λ either. ⊎_elim (λ before. Contains-append_left ps (one ∷ []) p before) (λ is_p. subst (Contains (ps ++ one ∷ [])) (only p is_p) (Contains-push ps one)) either),
)

pub Adds-more : (P Q R : Pierced → Type 0) (old mid new : List Pierced) → ((p : Pierced) → R p ↔ (P p ⊎ Q p)) → AddsPierced P old mid → AddsPierced Q mid new → AddsPierced R old new
Adds-more P Q R old mid new parts first second = λ p. (
  (λ held. ⊎_elim
      (λ before. ⊎_elim (λ was. inl was) (λ is. inr ((parts p).1 (inl is))) ((first p).0 before))
      (λ is. inr ((parts p).1 (inr is))) ((second p).0 held)),
  (λ either. ⊎_elim
      (λ was. (second p).1 (inl ((first p).1 (inl was))))
      (λ r. ⊎_elim (λ is. (second p).1 (inl ((first p).1 (inr is)))) (λ is. (second p).1 (inr is)) ((parts p).0 r)) either),
)

-- the pierce in the window is none, or this one and no other
pub none_told : (now : ℕ) (area : Area) (t : NamedTrajectory) → IsPierce t.path area now (window_end now) None → (p : Pierced) → ¬ IsPiercedBy now area t p
none_told now area t none p is = none p.first is.span.inside.0 (omega (arith, is.span.inside.1, is.span.inside.2)) is.span.first_is

abbrev told_of : Area → NamedTrajectory → ℕ → ℕ → Pierced
told_of area t first last = record { first = first; call = t.call; kind = t.kind; area = area.name; last = last }

one_told : (now : ℕ) (area : Area) (t : NamedTrajectory) (p q : Pierced) → IsPiercedBy now area t p → IsPiercedBy now area t q → p ≡ q
one_told now area t p q is also =
    let a = is.span in
    let b = also.span in
    let h1 = b.none_outside p.first a.inside.0 (omega (arith, a.inside.1, a.inside.2)) a.first_is in
    let h2 = a.none_outside q.first b.inside.0 (omega (arith, b.inside.1, b.inside.2)) b.first_is in
    let h3 = b.none_outside p.last (omega (arith, a.inside.0, a.inside.1)) a.inside.2 a.last_is in
    let h4 = a.none_outside q.last (omega (arith, b.inside.0, b.inside.1)) b.inside.2 b.last_is in
    let first : p.first ≡ q.first = omega arith in
    let last : p.last ≡ q.last = omega arith in
    λ i. record {
      first = first i;
      call = (is.names.1 ∙ sym also.names.1) i;
      kind = (is.names.2 ∙ sym also.names.2) i;
      area = (is.names.0 ∙ sym also.names.0) i;
      last = last i;
    }

pub Adds-told : (now : ℕ) (area : Area) (t : NamedTrajectory) (first last : ℕ) (old new : List Pierced)
    → IsSpanOf (IsInsideSecond t.path area) now (window_end now) first last → new ≡ old ++ told_of area t first last ∷ [] → AddsPierced (IsPiercedBy now area t) old new
Adds-told now area t first last old new span pushed =
    let is : IsPiercedBy now area t (told_of area t first last) = record { names = (refl, refl, refl); span = span } in
    rw pushed (Adds-one (IsPiercedBy now area t) old _ is (λ p other. one_told now area t _ p is other))

-- with one area more
pub one_area_more : (now : ℕ) (areas : List Area) (area : Area) (t : NamedTrajectory) (p : Pierced)
    → IsPiercedByOne now (areas ++ area ∷ []) t p ↔ (IsPiercedByOne now areas t p ⊎ IsPiercedBy now area t p)
one_area_more now areas area t p = (
  (λ some. ⊎_elim
      (λ before. inl (record { area = some.area; area_in = before; is = some.is }))
      (λ e. inr (subst (λ (a : Area). IsPiercedBy now a t p) (sym e) some.is)) (Contains-push_cases areas area some.area some.area_in)),
  (λ either. ⊎_elim
      (λ some. record { area = some.area; area_in = Contains-append_left areas (area ∷ []) some.area some.area_in; is = some.is })
      (λ is. record { area = area; area_in = Contains-push areas area; is = is }) either),
)

pub from_nothing : (P : Pierced → Type 0) (found : List Pierced) → AddsPierced P [] found → (p : Pierced) → Contains found p ↔ P p
from_nothing P found adds p = (
  (λ held. ⊎_elim (λ none. absurd (Contains-none p none)) (λ is. is) ((adds p).0 held)),
  (λ is. (adds p).1 (inr is)),
)

-- with one of a list more
pub one_held_more : (ps : List Pierced) (told p : Pierced) → Contains (ps ++ told ∷ []) p ↔ (Contains ps p ⊎ (told ≡ p))
one_held_more ps told p = (
  (λ held. Contains-push_cases ps told p held),
  (λ either. ⊎_elim (λ before. Contains-append_left ps (told ∷ []) p before) (λ same. subst (Contains (ps ++ told ∷ [])) same (Contains-push ps told)) either),
)

pub Adds-pushed : (old : List Pierced) (told : Pierced) (new : List Pierced) → new ≡ old ++ told ∷ [] → AddsPierced (λ p. told ≡ p) old new
Adds-pushed old told new pushed = rw pushed (λ p. one_held_more old told p)

-- no part, and one part more
pub no_parts : AreOfAll [] []
no_parts = record { parts = []; all = refl; exact = λ p. ((λ held. absurd (Contains-none p held)), (λ in_one. absurd (Contains-none in_one.part in_one.part_in))) }

one_part_more : (parts : List (List Pierced)) (part : List Pierced) (p : Pierced) → IsInOne (parts ++ part ∷ []) p ↔ (IsInOne parts p ⊎ Contains part p)
one_part_more parts part p = (
  (λ some. ⊎_elim
      (λ before. inl (record { part = some.part; part_in = before; within = some.within }))
      (λ e. inr (subst (λ (ps : List Pierced). Contains ps p) (sym e) some.within)) (Contains-push_cases parts part some.part some.part_in)),
  (λ either. ⊎_elim
      (λ some. record { part = some.part; part_in = Contains-append_left parts (part ∷ []) some.part some.part_in; within = some.within })
      (λ held. record { part = part; part_in = Contains-push parts part; within = held }) either),
)

pub gathered_more : (tries : List (Result (List Pierced) Memory)) (t : Result (List Pierced) Memory) (part found new : List Pierced) → AreOfAll tries found → t ≡ Ok part
    → AddsPierced (Contains part) found new → AreOfAll (tries ++ t ∷ []) new
gathered_more tries t part found new of gives adds = record {
  parts = of.parts ++ part ∷ [];
  all = rw (of.all, gives) (sym (map-append Ok of.parts (part ∷ [])));
  exact = λ p. (
    (λ held. (one_part_more of.parts part p).1 (⊎_elim (λ before. inl ((of.exact p).0 before)) (λ is. inr is) ((adds p).0 held))),
    (λ some. (adds p).1 (⊎_elim (λ before. inl ((of.exact p).1 before)) (λ is. inr is) ((one_part_more of.parts part p).0 some))),
  );
}

-- the parts of all trajectories
abbrev Tries : Type 0
Tries = List (Result (List Pierced) Memory)

abbrev tries_of : List (List Pierced) → Tries
tries_of parts = map Ok parts

abbrev AreToldOf : ℕ → List Area → List Item → Tries → Type 0
AreToldOf now areas items tries = (i : ℕ) (t : Result (List Pierced) Memory) (x : Item) → i < length items
    → IfOk (slice_index_or tries i t) (λ found. (p : Pierced) → Contains found p ↔ IsPiercedByOne now areas (named (slice_index_or items i x)) p)

some_of : {X : Type 0} (xs : List X) (i : ℕ) → i < length xs → X
some_of [] i below = absurd (omega arith)
some_of (x ∷ xs) i below = x

module _ (now : ℕ) (areas : List Area) (items : List Item) (parts : List (List Pierced)) (len : length parts ≡ length items) (each : AreToldOf now areas items (tries_of parts)) where
  part_at : (i : ℕ) (x : Item) (ps : List Pierced) → i < length items → (p : Pierced) → Contains (get_or parts i ps) p ↔ IsPiercedByOne now areas (named (get_or items i x)) p
  part_at i x ps below p =
      let at = each i (Ok ps) x below in
      let read : slice_index_or (tries_of parts) i (Ok ps) ≡ Ok (get_or parts i ps) = get_or-map Ok parts i ps (Ok ps) (omega arith) in
      (rw read at at) p

  all_told : (p : Pierced) → IsInOne parts p ↔ IsPiercedBySome now areas (map named items) p
  all_told p = (
    (λ some.
        let i = some.part_in.0 in
        let below : i < length items = let h = some.part_in.1 in omega arith in
        let x = some_of items i below in
        let one = (part_at i x some.part below p).0 (subst (λ (ps : List Pierced). Contains ps p) (sym some.part_in.2) some.within) in
        record {
          area = one.area;
          of = named (get_or items i x);
          area_in = one.area_in;
          of_in = Contains-map named items (get_or items i x) (Contains-get_or items i x below);
          is = one.is;
        }),
    (λ some.
        let seen = Contains-map_cases named items some.of some.of_in in
        let i = seen.held.0 in
        let below : i < length items = seen.held.1 in
        let same : some.of ≡ named (get_or items i seen.of) = sym (ap named seen.held.2 ∙ seen.is) in
        let one : IsPiercedByOne now areas (named (get_or items i seen.of)) p =
        record { area = some.area; area_in = some.area_in; is = subst (λ (t : NamedTrajectory). IsPiercedBy now some.area t p) same some.is } in
        record { part = get_or parts i []; part_in = Contains-get_or parts i [] (omega arith); within = (part_at i seen.of [] below p).1 one }),
  )

pub all_ordered : (now : ℕ) (areas : List Area) (items : List Item) (tries : Tries) (found ordered : List Pierced) → length tries ≡ length items
    → AreToldOf now areas items tries → AreOfAll tries found → ((p : Pierced) → Contains ordered p ↔ Contains found p)
    → IsStrictlySortedBy pierced_cmp ordered → ArePiercedOf now areas (map named items) ordered
all_ordered now areas items tries found ordered len each of same sorted =
    let many : length of.parts ≡ length items = let all = rw of.all at len in let long : length (tries_of of.parts) ≡ length of.parts = length-map {B = Result (List Pierced) Memory} of.parts Ok in omega (arith, all, long) in
    let told = all_told now areas items of.parts many (rw of.all at each) in
    record {
      exact = λ p. ((λ held. (told p).0 ((of.exact p).0 ((same p).0 held))), (λ some. (same p).1 ((of.exact p).1 ((told p).1 some))));
      sorted = sorted;
    }

-- what a place of the list is read as
pub told_at : (now : ℕ) (areas : List Area) (items : List Item) (i : ℕ) (item : Item) (r : Result (List Pierced) Memory) → i < length items → item ≡ get_or items i item
    → IfOk r (λ found. (p : Pierced) → Contains found p ↔ IsPiercedByOne now areas (named item) p)
    → IfOk r (λ found. (x : Item) (p : Pierced) → Contains found p ↔ IsPiercedByOne now areas (named (slice_index_or items i x)) p)
told_at now areas items i item (Ok found) below is told = λ x p.
    let same : item ≡ get_or items i x = is ∙ get_or_default items i item x below in
    subst (λ (it : Item). Contains found p ↔ IsPiercedByOne now areas (named it) p) same (told p)
told_at now areas items i item (Err e) below is told = tt
