use Rattle.std.proofs.Common.{ap, List, refl, subst, sym}
use Rattle.mt_base.specs.declared.command.Entry.{Entry}
use Rattle.mt_probe.specs.Shot.{Shot}
use Rattle.mt_picture.specs.Private.Stamps.{IsPicture}
use Rattle.mt_picture.proofs.Owning.{own_places}
use Rattle.mt_picture.proofs.Moved.{picture_slot, put_fits, put_inside}
use Rattle.std.proofs.lemmas.Result.{MatchResult-from_err}
use Rattle.mt_picture.proofs.Exits.{has_room, pushed_on, told, told_same}
use Rattle.mt_picture.proofs.held.Parts.put.Goals as goal

pub change-requires-clause-places : goal.change-requires-clause-places
change-requires-clause-places c = rw c.self.invariant.places_are (rw (← c.self.view_is) at c.requires.change).inside

-- each trajectory has one place after the change, since it has so in the new snapshot
pub change-requires-clause-own : goal.change-requires-clause-own
change-requires-clause-own c =
    let change = rw (← c.self.view_is) at c.requires.change in
    let slots = ap (λ (s : Shot). s.slots) c.in_ok-snapshot.ensures.value in
    rw (c.self.invariant.places_are, change.places_are) (rw slots at (own_places c.in_ok-snapshot.snapshot c.keeps-2.ensures.sound))

pub invariant_of-self-2 : goal.invariant_of-self-2
invariant_of-self-2 c =
    let p = c.self.inside in
    let e : Entry = c.args.entry in
    let put = rw (← c.self.view_is) at c.requires.put in
    let entered = pushed_on _ _ p.history.items e c.push_reserved.ensures.items c.in_ok-reserve.ensures.items in
    let change = rw (← c.self.view_is) at c.requires.change in
    let places = rw (c.self.invariant.places_are, change.places_are) at c.in_ok-change.ensures.ok in
    subst (λ (g : List Entry). IsPicture c.in_ok-snapshot.snapshot g c.change.new.self) (sym entered)
    (picture_slot p.snapshot c.in_ok-snapshot.snapshot p.history.items e c.args.slot c.args.flight p.kept c.change.new.self c.self.invariant put
    c.requires.complete c.keeps.ensures.sound c.keeps-2.ensures.sound c.in_ok-snapshot.ensures.value c.in_ok-snapshot.ensures.records
    c.in_ok-change.ensures.rules c.in_ok-change.ensures.moment places)

pub put-requires-clause-counted : goal.put-requires-clause-counted
put-requires-clause-counted c = rw (← c.self.view_is) at c.requires.counted

pub put-requires-clause-place : goal.put-requires-clause-place
put-requires-clause-place c = put_inside c.self.inside.snapshot c.args.slot c.args.flight c.args.entry (rw (← c.self.view_is) at c.requires.put)

pub put-requires-clause-fits : goal.put-requires-clause-fits
put-requires-clause-fits c = put_fits c.self.inside.snapshot c.args.slot c.args.flight c.args.entry (rw (← c.self.view_is) at c.requires.put)

pub put-requires-clause-kept : goal.put-requires-clause-kept
put-requires-clause-kept c = (rw (← c.self.view_is) at c.requires.change).stays_is

pub put-requires-clause-made : goal.put-requires-clause-made
put-requires-clause-made c = (rw (← c.self.view_is) at c.requires.change).slices_are

pub change-requires-clause-finds : goal.change-requires-clause-finds
change-requires-clause-finds c =
    let change = rw (← c.self.view_is) at c.requires.change in
    rw (c.deref.ensures.value, c.self.invariant.rules_are, c.self.invariant.moment_is, c.self.invariant.places_are, change.places_are) change.finds_are

pub push_reserved-requires : goal.push_reserved-requires
push_reserved-requires c = has_room _ _ c.in_ok-reserve.ensures.ok

pub invariant_of-self : goal.invariant_of-self
invariant_of-self c = rw c.in_err-reserve.ensures.items c.self.invariant

pub returns-in_err-snapshot : goal.returns-in_err-snapshot
returns-in_err-snapshot c = MatchResult-from_err c.from_residual.result _ _ c.from_residual.ensures.0 (λ err. refl)

pub returns-in_err-reserve : goal.returns-in_err-reserve
returns-in_err-reserve c =
    MatchResult-from_err c.from_residual-in_err-reserve.result _ _ c.from_residual-in_err-reserve.ensures.0
    (λ err. rw (← c.self.view_is) (ap (told c.self.inside.snapshot.setup) c.in_err-reserve.ensures.items))

pub returns-in_err-change : goal.returns-in_err-change
returns-in_err-change c =
    MatchResult-from_err c.from_residual-in_err-change.result _ _ c.from_residual-in_err-change.ensures.0
    (λ err. rw (← c.self.view_is) (ap (told c.self.inside.snapshot.setup) c.in_ok-reserve.ensures.items))

pub returns : goal.returns
returns c =
    rw (← c.self.view_is) (told_same _ c.self.inside.snapshot.setup _ _ (ap (λ (s : Shot). s.setup) c.in_ok-snapshot.ensures.value)
    (pushed_on _ _ c.self.inside.history.items c.args.entry c.push_reserved.ensures.items c.in_ok-reserve.ensures.items))

pub invariant_of-self-in_err-change : goal.invariant_of-self-in_err-change
invariant_of-self-in_err-change c = rw (c.in_ok-reserve.ensures.items, c.in_err-change.ensures.err) c.self.invariant
