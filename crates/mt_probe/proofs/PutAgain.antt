-- What a snapshot holds once a flight is put again where it stands.
use Rattle.std.proofs.Common.{◌≡◌, ◌⊎◌, inl, inr, ◌+◌, ℕ, List, Option, Some, option_map, refl, ◌∙◌, ap}
use Rattle.std.proofs.Math.ListN.{set}
use Rattle.mt_probe.specs.declared.flight.Flight.{Flight}
use Rattle.mt_probe.specs.declared.snapshot.Body.{Body}
use Rattle.mt_probe.specs.Private.Body.{IsSameBody, shot_of}
use Rattle.mt_probe.specs.Private.Boxed.{IsSnapshotKept}
use Rattle.mt_probe.specs.Putting.{Fits, records_put, with_flight}
use Rattle.mt_probe.specs.Shot.{Shot, flight_at, kept_of, records_in}
use Rattle.mt_probe.proofs.Again.{old_of, same_call, same_holds, same_laid}
use Rattle.mt_probe.proofs.Indexing.{same_index}
use Rattle.mt_probe.proofs.Placed.{filled_inside, put_records, put_sound}

-- what is to be written to: the old one, or the same once more
pub same_body : (old body : Body) → (body ≡ old) ⊎ IsSameBody old body → IsSameBody old body
same_body old body (inl is) = record { shot = ap shot_of is; table = ap (λ (b : Body). b.table) is; index = ap (λ (b : Body). b.index) is }
same_body old body (inr same) = same

pub kept_still : (old body left : Body) → IsSameBody old body → left ≡ body → IsSnapshotKept (shot_of old) old.table old.index
    → IsSnapshotKept (shot_of left) left.table left.index
kept_still old body left same is kept = rw (is, same.shot, same.table, same.index) kept

module _ (old body left : Body) (slot : ℕ) (flight put : Flight) (slots : List (Option Flight)) (same : IsSameBody old body) (put_is : put ≡ flight)
    (slots_are : slots ≡ set body.slots slot (Some put)) (left_is : left ≡ record body { version = body.version + 1; slots = slots }) where
  pub shot_again : shot_of left ≡ with_flight (shot_of old) slot (Some flight)
  shot_again =
      ap shot_of left_is
      ∙ ap (λ (ss : List (Option Flight)). record (shot_of body) { version = body.version + 1; slots = ss })
      (slots_are ∙ ap (λ (f : Flight). set body.slots slot (Some f)) put_is)
      ∙ ap (λ (s : Shot). with_flight s slot (Some flight)) same.shot

  module _ (fits : Fits (shot_of old) slot flight) (has : option_map kept_of (flight_at (shot_of old) slot) ≡ Some (kept_of flight))
      (kept : IsSnapshotKept (shot_of old) old.table old.index) where
    pub kept_again : IsSnapshotKept (shot_of left) left.table left.index
    kept_again =
        let shot = shot_of old in
        let it = old_of (flight_at shot slot) flight has in
        let inside = filled_inside shot.slots slot it.old it.there in
        let table : left.table ≡ old.table = ap (λ (b : Body). b.table) left_is ∙ same.table in
        let index : left.index ≡ old.index = ap (λ (b : Body). b.index) left_is ∙ same.index in
        rw (shot_again, table, index) (record {
          sound = put_sound shot slot inside kept.sound (Some flight) (shot.version + 1) fits (same_laid it.old flight it.kept shot slot kept.sound it.there);
          holds = same_holds it.old flight it.kept shot.setup.rules shot.slots slot inside it.there old.table kept.holds;
          indexed = same_index shot.slots old.index slot it.old flight inside it.there (same_call it.old flight it.kept) kept.indexed;
        })

    pub records_again : records_in left.slots ≡ records_put (flight_at (shot_of old) slot) (Some flight) (records_in old.slots)
    records_again =
        let shot = shot_of old in
        let it = old_of (flight_at shot slot) flight has in
        ap (λ (s : Shot). records_in s.slots) shot_again
        ∙ put_records shot slot (filled_inside shot.slots slot it.old it.there) kept.sound (flight_at shot slot) (Some flight) refl fits
