use Rattle.std.proofs.Common.{◌≡◌, ◌∙◌, Some, ap, inl, inr, refl, sym, true}
use Rattle.std.specs.Prelude.{is_some}
use Rattle.mt_track.specs.Named.{named}
use Rattle.mt_probe.specs.Shot.{flight_at, made_of}
use Rattle.mt_probe.proofs.Boxes.{if_some}
use Rattle.mt_picture.specs.Private.Places.{other_kind, place_in}
use Rattle.mt_picture.proofs.Changing.{had_none, has_none, has_other, new_goes, new_stays, slices_new, some_map}
use Rattle.mt_picture.proofs.change.slot_change.Goals as goal
use Rattle.mt_picture.proofs.change.slot_change.Goals.{then-is_some-2+in_ok-push-2, else-is_some-2}

pub returns-then-is_some-clause-change : goal.returns-then-is_some-clause-change
returns-then-is_some-clause-change c =
    let sliced = if_some c.args.slices _ _ (λ s is. ap Some is
    ∙ sym (slices_new c.args.held.now.snapshot.setup.rules c.args.item.kind c.args.flight.now (named c.args.item) c.requires.item)) c.requires.slices in
    let items = rw c.new-changes.ensures.items at c.in_ok-push.ensures.items in
    let made = c.made_of.ensures ∙ ap (made_of c.args.flight.now) c.other_kind-other.ensures in
    let has : is_some (made_of c.args.flight.now (other_kind c.args.item.kind)) ≡ true =
    ap is_some (sym made) ∙ some_map _ c.made_of.result ∙ sym c.is_some.ensures ∙ c.if-is_some.true in
    new_stays c.args.held.now.snapshot c.args.slot c.requires.slot c.args.flight.now c.args.item.kind _ _ items c.place_of.ensures (sym c.requires.item)
    (has_other c.args.flight.now (other_kind c.args.item.kind) (flight_at c.args.held.now.snapshot c.args.slot) c.requires.other has) c.requires.finds
    (inl (ap Some c.other_kind-other.ensures)) sliced

pub returns-clause-change : goal.returns-clause-change
returns-clause-change c =
    let sliced = if_some c.args.slices _ _ (λ s is. ap Some is
    ∙ sym (slices_new c.args.held.now.snapshot.setup.rules c.args.item.kind c.args.flight.now (named c.args.item) c.requires.item)) c.requires.slices in
    let shot = c.args.held.now.snapshot in
    let other = other_kind c.args.item.kind in
    let items = rw c.new-changes.ensures.items at c.in_ok-push.ensures.items in
    let made = c.made_of.ensures ∙ ap (made_of c.args.flight.now) c.other_kind-other.ensures in
    let gone = has_none c.args.flight.now other (ap is_some (sym made) ∙ some_map _ c.made_of.result ∙ sym c.is_some.ensures ∙ c.if-is_some.false) in
    elim c.if-is_some-2.branch [
      | then-is_some-2+in_ok-push-2 w ↦
          rw w.changes-is (new_goes shot c.args.slot c.requires.slot c.args.flight.now c.args.item.kind _ _ _ (rw items at w.in_ok-push-2.ensures.items)
          c.place_of.ensures (w.place_of-then-is_some-2.ensures ∙ ap (place_in c.args.slot) c.other_kind-other.ensures) (sym c.requires.item) refl gone
          c.requires.finds refl sliced)
      | else-is_some-2 w ↦
          let was = rw (c.snapshot.ensures.value, c.other_kind-other.ensures) at c.strand.ensures in
          let none = had_none (flight_at shot c.args.slot) other (ap is_some (sym was) ∙ some_map _ c.strand.result ∙ sym c.is_some-2.ensures ∙ w.if-is_some-2.false) in
          rw w.changes-is (new_stays shot c.args.slot c.requires.slot c.args.flight.now c.args.item.kind _ _ items c.place_of.ensures (sym c.requires.item)
          (gone ∙ sym none) c.requires.finds (inr (refl, gone)) sliced)
    ]
