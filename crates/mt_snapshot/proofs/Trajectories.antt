-- The trajectories that are kept at the places are those of the state's flights.
use Rattle.std.proofs.Common.{◌≡◌, ℕ, zero, suc, ◌<◌, ◌+◌, List, [], ◌∷◌, ◌++◌, Some, IfSome, length, map, take, get_or, refl, sym, ◌∙◌, ap, arith}
use Rattle.std.specs.Prelude.{option_map}
use Rattle.std.specs.List.{flat_map}
use Rattle.std.proofs.lemmas.List.{flat_map_more, take_more}
use Rattle.mt_base.specs.declared.flight.Record.{Record}
use Rattle.mt_base.specs.Picture.{NamedTrajectory, trajectories_of}
use Rattle.mt_base.specs.Others.{AreOfOthers}
use Rattle.mt_base.proofs.Others.{others_before as others_among}
use Rattle.mt_probe.specs.Shot.{Shot, flight_at, records_in}
use Rattle.mt_probe.specs.Standing.{IsSoundShot}
use Rattle.mt_probe.proofs.Placed.{placed}
use Rattle.mt_probe.proofs.Whole.{own_calls}
use Rattle.mt_snapshot.specs.declared.order.Filed.{Filed}
use Rattle.mt_snapshot.specs.Private.Kept.{kept_at}
use Rattle.mt_snapshot.specs.Private.Order.{ArePlaced, card_at}

-- A place of the order holds the flight that has the same place among these.
pub record IsCardAt (shot : Shot) (records : List Record) (i : ℕ) (x : Filed) : Type 0 where
  pub card : Record
  pub at_is : card_at shot x ≡ Some card
  pub is : card ≡ get_or records i card
  pub below : i < length records

in_turn : (shot : Shot) (xs : List Filed) (records : List Record) (i : ℕ) (d : Filed) → map (card_at shot) xs ≡ map Some records → i < length xs
    → IsCardAt shot records i (get_or xs i d)
in_turn shot [] records i d placed below = absurd (omega arith)
in_turn shot (y ∷ ys) [] i d placed below = absurd (cc)
in_turn shot (y ∷ ys) (r ∷ rs) zero d placed below = record { card = r; at_is = (cc); is = refl; below = omega arith }
in_turn shot (y ∷ ys) (r ∷ rs) (suc i) d placed below =
    let later : map (card_at shot) ys ≡ map Some rs = cc in
    let rest = in_turn shot ys rs i d later (omega arith) in
    record { card = rest.card; at_is = rest.at_is; is = rest.is; below = omega (arith, rest.below) }

pub card_in_turn : (shot : Shot) (xs : List Filed) (i : ℕ) (d : Filed) → ArePlaced shot xs → i < length xs
    → IsCardAt shot (records_in shot.slots) i (get_or xs i d)
card_in_turn shot xs i d = in_turn shot xs (records_in shot.slots) i d

-- as many places as flights
pub as_many : (shot : Shot) (xs : List Filed) (records : List Record) → map (card_at shot) xs ≡ map Some records → length xs ≡ length records
as_many shot [] [] placed = refl
as_many shot [] (r ∷ rs) placed = absurd (cc)
as_many shot (y ∷ ys) [] placed = absurd (cc)
as_many shot (y ∷ ys) (r ∷ rs) placed = ap suc (as_many shot ys rs (cc))

-- what is kept at a place are the trajectories of its flight
pub kept_is : (shot : Shot) (place : ℕ) (card : Record) → IsSoundShot shot → option_map (λ f. f.card) (flight_at shot place) ≡ Some card
    → kept_at shot place ≡ trajectories_of shot.setup card
kept_is shot place card sound is =
    let it = placed (flight_at shot place) card (sym is) in
    rw it.at_is ((sound.sound place it.flight it.at_is).kept ∙ ap (trajectories_of shot.setup) it.card_is)

-- so it joins those of the flights before
pub joins : (shot : Shot) (records : List Record) (i : ℕ) (x : Filed) → IsSoundShot shot → (at : IsCardAt shot records i x)
    → flat_map (trajectories_of shot.setup) (take i records) ++ kept_at shot x.place ≡ flat_map (trajectories_of shot.setup) (take (i + 1) records)
joins shot records i x sound at =
    ap (λ (ts : List NamedTrajectory). flat_map (trajectories_of shot.setup) (take i records) ++ ts) (kept_is shot x.place at.card sound at.at_is)
    ∙ flat_map_more (trajectories_of shot.setup) [] (take i records) at.card
    ∙ ap (flat_map (trajectories_of shot.setup))
    (ap (λ (r : Record). take i records ++ r ∷ []) at.is ∙ sym (take_more records i at.card at.below))

-- the flights before one have other callsigns
pub others_before : (shot : Shot) (i : ℕ) (x : Filed) → IsSoundShot shot → IsCardAt shot (records_in shot.slots) i x
    → IfSome (flight_at shot x.place) (λ f. AreOfOthers f.card.call (flat_map (trajectories_of shot.setup) (take i (records_in shot.slots))))
others_before shot i x sound at =
    let it = placed (flight_at shot x.place) at.card (sym at.at_is) in
    rw (it.at_is, it.card_is) (others_among shot.setup (records_in shot.slots) i at.card (own_calls shot sound) at.below at.is)
