use Rattle.std.proofs.Common.{◌≡◌, ◌∙◌, ◌+◌, ◌<◌, ℕ, List, Option, None, IfSome, ap, get_or, length, refl, sym, subst}
use Rattle.std.proofs.Math.ListN.{set}
use Rattle.std.proofs.lemmas.List.{get_or-set_same}
use Rattle.std.proofs.lemmas.Result.{IfOk-weaker}
use Rattle.std.specs.Arc.{arc_value}
use Rattle.mt_probe.specs.declared.flight.Flight.{Flight}
use Rattle.mt_probe.specs.Private.Body.{shot_of}
use Rattle.mt_probe.specs.Private.Boxed.{AreSlicesOf}
use Rattle.mt_probe.specs.Putting.{Fits, IsKindKept, made_beside, records_put}
use Rattle.mt_probe.specs.Shot.{Shot, flight_at, records_in}
use Rattle.mt_probe.proofs.Boxes.{holds_with, if_some, slices_stay}
use Rattle.mt_probe.proofs.Indexing.{can_be}
use Rattle.mt_probe.proofs.Placed.{put_records, put_sound}
use Rattle.mt_probe.proofs.snapshot.Snapshot.put.Goals as goal

-- what was put at a place is there
put_there : (slots after : List (Option Flight)) (i : ℕ) (put flight there : Option Flight) → i < length slots → after ≡ set slots i put → put ≡ flight
    → there ≡ get_or after i None → there ≡ flight
put_there slots after i put flight there inside after_is put_is there_is =
    there_is ∙ ap (λ (ss : List (Option Flight)). get_or ss i None) after_is ∙ get_or-set_same slots i put None inside ∙ put_is

pub changed-requires-clause-kept : goal.changed-requires-clause-kept
changed-requires-clause-kept c =
    let shot : Shot = shot_of (arc_value c.self.inside.body) in
    let fits = subst (λ (s : Shot). IfSome c.args.flight (Fits s c.args.slot)) (sym c.self.view_is) c.requires.fits in
    let inside = subst (λ (s : Shot). c.args.slot < length s.slots) (sym c.self.view_is) c.requires.place in
    let new = put_there shot.slots c.in_ok-slots.slots c.args.slot _ c.args.flight _ inside
    (rw c.deref-body.ensures at c.in_ok-slots.ensures) c.in_ok-shared.ensures c.get-new.ensures in
    let laid = rw new at c.in_ok-table.ensures.laid in
    let table = rw (new, c.deref-body.ensures) at c.in_ok-table.ensures.table in
    rw (c.in_ok-slots.ensures, c.in_ok-shared.ensures, c.deref-body.ensures, table) (record {
      sound = put_sound shot c.args.slot inside c.self.invariant.sound c.args.flight (shot.version + 1) fits laid;
      holds = holds_with shot.setup.rules shot.slots c.args.slot c.args.flight (arc_value c.self.inside.body).table inside c.self.invariant.holds;
      indexed = rw (new, c.deref-body.ensures) at c.in_ok-index.ensures;
    })

pub moved-requires-clause-kept : goal.moved-requires-clause-kept
moved-requires-clause-kept c =
    let shot : Shot = shot_of (arc_value c.self.inside.body) in
    let kept = subst (λ (s : Shot). IfSome c.args.stays (IsKindKept s c.args.slot c.args.flight)) (sym c.self.view_is) c.requires.kept in
    let inside = subst (λ (s : Shot). c.args.slot < length s.slots) (sym c.self.view_is) c.requires.place in
    let new = put_there shot.slots c.in_ok-slots.slots c.args.slot _ c.args.flight _ inside
    (rw c.deref-body.ensures at c.in_ok-slots.ensures) c.in_ok-shared.ensures c.get-new.ensures in
    rw (new, c.deref-body.ensures) (if_some c.args.stays _ _
    (λ kind same. slices_stay shot (arc_value c.self.inside.body).table c.args.slot c.args.flight kind c.self.invariant.holds same) kept)

pub moved-requires-clause-made : goal.moved-requires-clause-made
moved-requires-clause-made c =
    let shot : Shot = shot_of (arc_value c.self.inside.body) in
    let made = subst (λ (s : Shot). IfSome c.args.slices (λ given. AreSlicesOf s.setup.rules (made_beside c.args.stays) c.args.flight (arc_value given)))
    (sym c.self.view_is) c.requires.made in
    let inside = subst (λ (s : Shot). c.args.slot < length s.slots) (sym c.self.view_is) c.requires.place in
    let new = put_there shot.slots c.in_ok-slots.slots c.args.slot _ c.args.flight _ inside
    (rw c.deref-body.ensures at c.in_ok-slots.ensures) c.in_ok-shared.ensures c.get-new.ensures in
    rw (new, c.deref-body.ensures) made

pub put-requires-clause-can : goal.put-requires-clause-can
put-requires-clause-can c =
    let shot : Shot = shot_of (arc_value c.self.inside.body) in
    let fits = subst (λ (s : Shot). IfSome c.args.flight (Fits s c.args.slot)) (sym c.self.view_is) c.requires.fits in
    let inside = subst (λ (s : Shot). c.args.slot < length s.slots) (sym c.self.view_is) c.requires.place in
    let new = put_there shot.slots c.in_ok-slots.slots c.args.slot _ c.args.flight _ inside
    (rw c.deref-body.ensures at c.in_ok-slots.ensures) c.in_ok-shared.ensures c.get-new.ensures in
    rw (new, c.deref-body.ensures) (can_be shot c.args.slot c.args.flight inside c.self.invariant.sound fits)

pub returns-clause-records : goal.returns-clause-records
returns-clause-records c =
    let shot : Shot = shot_of (arc_value c.self.inside.body) in
    let fits = subst (λ (s : Shot). IfSome c.args.flight (Fits s c.args.slot)) (sym c.self.view_is) c.requires.fits in
    let inside = subst (λ (s : Shot). c.args.slot < length s.slots) (sym c.self.view_is) c.requires.place in
    IfOk-weaker c.changed.result _ _ (λ after is. ap (λ (s : Shot). records_in s.slots) is
    ∙ rw (c.in_ok-slots.ensures, c.in_ok-shared.ensures, c.deref-body.ensures)
    (put_records shot c.args.slot inside c.self.invariant.sound (flight_at shot c.args.slot) c.args.flight refl fits)
    ∙ ap (λ (s : Shot). records_put (flight_at s c.args.slot) c.args.flight (records_in s.slots)) c.self.view_is) c.changed.ensures
