use Rattle.std.proofs.Common.{◌≢◌, inl, inr, ⊎_elim, refl, sym, ◌∙◌, true≢false, map}
use Rattle.std.proofs.lemmas.Slice.Eq.{bytes_eq-Decides}
use Rattle.std.proofs.lemmas.Result.{on_ok_weaker}
use Rattle.mt_track.specs.Named.{named}
use Rattle.mt_kept.specs.Places.{seen}
use Rattle.mt_kept.proofs.Costs.{listed_cost, none_rose}
use Rattle.mt_kept.proofs.Gathering.{no_other, other_read}
use Rattle.mt_kept.proofs.Publishing.{none_seen, not_beyond}
use Rattle.mt_kept.proofs.finds.add_candidate.Goals as goal

pub returns-then-eq-clause-added : goal.returns-then-eq-clause-added
returns-then-eq-clause-added c =
    let same = (bytes_eq-Decides c.in-Some.other.call c.args.item.now.call).0 (sym c.eq.ensures ∙ c.if-eq.true) in
    inl (
      refl,
      no_other c.args.places.now c.args.place c.args.candidate.place (named c.args.item.now) c.index-places-there.result c.in-Some.other
          c.if-there-places.false c.index-places-there.is c.in-Some.is same,
    )

pub add_find-requires-clause-known : goal.add_find-requires-clause-known
add_find-requires-clause-known c =
    let apart : c.in-Some.other.call ≢ c.args.item.now.call = λ same.
    true≢false (sym ((bytes_eq-Decides c.in-Some.other.call c.args.item.now.call).1 same) ∙ sym c.eq.ensures ∙ c.if-eq.false) in
    c.requires.right (named c.in-Some.other) (other_read c.args.places.now c.args.place c.args.candidate.place (named c.args.item.now)
    c.index-places-there.result c.in-Some.other c.if-there-places.false c.index-places-there.is c.in-Some.is c.if-candidate-place.false apart)

pub returns-clause-added : goal.returns-clause-added
returns-clause-added c =
    let apart : c.in-Some.other.call ≢ c.args.item.now.call = λ same.
    true≢false (sym ((bytes_eq-Decides c.in-Some.other.call c.args.item.now.call).1 same) ∙ sym c.eq.ensures ∙ c.if-eq.false) in
    let there = other_read c.args.places.now c.args.place c.args.candidate.place (named c.args.item.now) c.index-places-there.result c.in-Some.other
    c.if-there-places.false c.index-places-there.is c.in-Some.is c.if-candidate-place.false apart in
    on_ok_weaker c.add_find.result (λ added. inr (named c.in-Some.other, there, added)) c.add_find.ensures.added

pub returns-clause-counted : goal.returns-clause-counted
returns-clause-counted c =
    let apart : c.in-Some.other.call ≢ c.args.item.now.call = λ same.
    true≢false (sym ((bytes_eq-Decides c.in-Some.other.call c.args.item.now.call).1 same) ∙ sym c.eq.ensures ∙ c.if-eq.false) in
    listed_cost (map seen c.args.places.now) c.args.place (named c.args.item.now) (named c.in-Some.other) c.args.now c.args.candidate
    c.args.tests.now c.add_find.new.tests
    (other_read c.args.places.now c.args.place c.args.candidate.place (named c.args.item.now)
    c.index-places-there.result c.in-Some.other c.if-there-places.false c.index-places-there.is c.in-Some.is c.if-candidate-place.false apart)
    c.add_find.ensures.counted

pub returns-then-candidate-place-clause-counted : goal.returns-then-candidate-place-clause-counted
returns-then-candidate-place-clause-counted c = none_rose _ _ _ refl

pub returns-in_default-clause-counted : goal.returns-in_default-clause-counted
returns-in_default-clause-counted c = none_rose _ _ _ refl

pub returns-then-eq-clause-counted : goal.returns-then-eq-clause-counted
returns-then-eq-clause-counted c = none_rose _ _ _ refl

pub add_find-requires-clause-apart : goal.add_find-requires-clause-apart
add_find-requires-clause-apart c = λ same. true≢false (sym ((bytes_eq-Decides c.in-Some.other.call c.args.item.now.call).1 (sym same)) ∙ sym c.eq.ensures ∙ c.if-eq.false)

pub add_find-requires-clause-elsewhere : goal.add_find-requires-clause-elsewhere
add_find-requires-clause-elsewhere c = c.if-candidate-place.false

pub returns-in_default-clause-added : goal.returns-in_default-clause-added
returns-in_default-clause-added c = inl (
  refl,
  λ t other. none_seen c.args.places.now c.args.candidate.place c.index-places-there.result t other.is c.index-places-there.is c.in_default.is,
)

pub returns-then-candidate-place-clause-added : goal.returns-then-candidate-place-clause-added
returns-then-candidate-place-clause-added c = inl (
  refl,
  λ t other. ⊎_elim
      (λ here. other.elsewhere here)
      (λ beyond. not_beyond c.args.places.now c.args.candidate.place t other.is beyond.1)
      c.then-candidate-place.either,
)
