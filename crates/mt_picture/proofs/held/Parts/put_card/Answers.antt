use Rattle.std.proofs.Common.{Some, ◌∙◌, List, ap, subst, sym, refl}
use Rattle.mt_base.specs.declared.command.Entry.{Entry}
use Rattle.mt_probe.specs.Shot.{Shot, flight_at}
use Rattle.mt_picture.specs.Private.Stamps.{IsPicture}
use Rattle.mt_picture.proofs.Again.{kept_same}
use Rattle.mt_picture.proofs.Slotted.{places_same}
use Rattle.mt_picture.proofs.Standing.{picture_put}
use Rattle.std.proofs.lemmas.Result.{MatchResult-from_err}
use Rattle.mt_picture.proofs.Exits.{has_room, pushed_on, told, told_same}
use Rattle.mt_picture.proofs.held.Parts.put_card.Goals as goal

pub put_again-requires-clause-same : goal.put_again-requires-clause-same
put_again-requires-clause-same c =
    let shot = c.self.inside.snapshot in
    kept_same c.args.flight (flight_at shot c.args.slot) (rw (← c.self.view_is) at c.requires.first) (rw (← c.self.view_is) at c.requires.second)

pub invariant_of-self-2 : goal.invariant_of-self-2
invariant_of-self-2 c =
    let p = c.self.inside in
    let e : Entry = c.args.entry in
    let entered = pushed_on _ _ p.history.items e c.push_reserved.ensures.items c.in_ok-reserve.ensures.items in
    let places = c.self.invariant.places_are ∙ sym (places_same p.snapshot.slots c.args.slot (Some c.args.flight)
    (rw (← c.self.view_is) at c.requires.first) (rw (← c.self.view_is) at c.requires.second)) in
    subst (λ (g : List Entry). IsPicture c.put_again.new.self g p.kept) (sym entered)
    (picture_put p.snapshot c.put_again.new.self p.history.items e c.args.slot c.args.flight c.self.invariant.stands (rw (← c.self.view_is) at c.requires.put)
    c.in_ok-put_again.ensures.value c.in_ok-put_again.ensures.records p.kept p.kept c.self.invariant c.requires.complete c.keeps-2.ensures.sound refl refl places)

pub invariant_of-self-in_err-put_again : goal.invariant_of-self-in_err-put_again
invariant_of-self-in_err-put_again c = rw (c.in_ok-reserve.ensures.items, c.in_err-put_again.ensures.unchanged) c.self.invariant

pub put_again-requires-clause-counted : goal.put_again-requires-clause-counted
put_again-requires-clause-counted c = rw (← c.self.view_is) at c.requires.counted

pub put_again-requires-clause-fits : goal.put_again-requires-clause-fits
put_again-requires-clause-fits c = (rw (← c.self.view_is) at c.requires.put).fits

pub push_reserved-requires : goal.push_reserved-requires
push_reserved-requires c = has_room _ _ c.in_ok-reserve.ensures.ok

pub invariant_of-self : goal.invariant_of-self
invariant_of-self c = rw c.in_err-reserve.ensures.items c.self.invariant

pub returns-in_err-reserve : goal.returns-in_err-reserve
returns-in_err-reserve c =
    MatchResult-from_err c.from_residual.result _ _ c.from_residual.ensures.0
    (λ err. rw (← c.self.view_is) (ap (told c.self.inside.snapshot.setup) c.in_err-reserve.ensures.items))

pub returns-in_err-put_again : goal.returns-in_err-put_again
returns-in_err-put_again c =
    MatchResult-from_err c.from_residual-in_err-put_again.result _ _ c.from_residual-in_err-put_again.ensures.0
    (λ err. rw (← c.self.view_is) (told_same _ c.self.inside.snapshot.setup _ _ (ap (λ (s : Shot). s.setup) c.in_err-put_again.ensures.unchanged)
    c.in_ok-reserve.ensures.items))

pub returns : goal.returns
returns c =
    rw (← c.self.view_is) (told_same _ c.self.inside.snapshot.setup _ _ (ap (λ (s : Shot). s.setup) c.in_ok-put_again.ensures.value)
    (pushed_on _ _ c.self.inside.history.items c.args.entry c.push_reserved.ensures.items c.in_ok-reserve.ensures.items))
