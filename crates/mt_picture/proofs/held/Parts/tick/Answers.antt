use Rattle.std.proofs.Common.{List, ap, refl, subst, sym}
use Rattle.mt_base.specs.declared.command.Command.TheVariants.{Tick}
use Rattle.mt_base.specs.declared.command.Entry.{Entry}
use Rattle.mt_picture.specs.Private.Stamps.{IsPicture}
use Rattle.mt_picture.proofs.Moved.{none_tested, picture_tick}
use Rattle.std.proofs.lemmas.Result.{MatchResult-from_err}
use Rattle.mt_probe.specs.Shot.{Shot}
use Rattle.mt_picture.proofs.Exits.{has_room, pushed_on, told, told_same}
use Rattle.mt_picture.proofs.held.Parts.tick.Goals as goal

pub invariant_of-self-2 : goal.invariant_of-self-2
invariant_of-self-2 c =
    let p = c.self.inside in
    let e : Entry = record { who = c.args.who; command = Tick c.args.now } in
    let entered = pushed_on _ _ p.history.items e c.push_reserved.ensures.items c.in_ok-reserve.ensures.items in
    subst (λ (g : List Entry). IsPicture c.in_ok-snapshot.snapshot g c.move_to.new.self) (sym entered)
    (picture_tick p.snapshot c.in_ok-snapshot.snapshot p.history.items c.args.who c.args.now p.kept c.move_to.new.self c.self.invariant
    (record { names = tt; timed = tt; bounded = c.requires.early; who = c.ranges.who.fits }) c.keeps-2.ensures.sound c.in_ok-snapshot.ensures
    c.in_ok-move_to.ensures.rules c.in_ok-move_to.ensures.ok c.in_ok-move_to.ensures.places)

pub returns-in_err-snapshot-clause-counted : goal.returns-in_err-snapshot-clause-counted
returns-in_err-snapshot-clause-counted c = none_tested _ _ _ _

pub returns-in_err-reserve-clause-counted : goal.returns-in_err-reserve-clause-counted
returns-in_err-reserve-clause-counted c = none_tested _ _ _ _

-- room for the entry was taken before the move
pub push_reserved-requires : goal.push_reserved-requires
push_reserved-requires c = has_room _ _ c.in_ok-reserve.ensures.ok

pub returns-clause-counted : goal.returns-clause-counted
returns-clause-counted c = rw (← c.self.view_is) (rw (c.self.invariant.rules_are, c.self.invariant.places_are) at c.move_to.ensures.counted)

pub returns-in_err-move_to-clause-counted : goal.returns-in_err-move_to-clause-counted
returns-in_err-move_to-clause-counted c = rw (← c.self.view_is) (rw (c.self.invariant.rules_are, c.self.invariant.places_are) at c.move_to.ensures.counted)

pub at-requires-clause-counted : goal.at-requires-clause-counted
at-requires-clause-counted c = rw (← c.self.view_is) at c.requires.counted

pub move_to-requires-clause-later : goal.move_to-requires-clause-later
move_to-requires-clause-later c = rw c.self.invariant.moment_is (rw (← c.self.view_is) at c.requires.later)

pub invariant_of-self : goal.invariant_of-self
invariant_of-self c = rw c.in_err-reserve.ensures.items c.self.invariant

pub invariant_of-self-in_err-move_to : goal.invariant_of-self-in_err-move_to
invariant_of-self-in_err-move_to c = rw (c.in_ok-reserve.ensures.items, c.in_err-move_to.ensures.err) c.self.invariant

pub returns-in_err-snapshot-clause-entered : goal.returns-in_err-snapshot-clause-entered
returns-in_err-snapshot-clause-entered c = MatchResult-from_err c.from_residual.result _ _ c.from_residual.ensures.0 (λ err. refl)

pub returns-in_err-reserve-clause-entered : goal.returns-in_err-reserve-clause-entered
returns-in_err-reserve-clause-entered c =
    MatchResult-from_err c.from_residual-in_err-reserve.result _ _ c.from_residual-in_err-reserve.ensures.0
    (λ err. rw (← c.self.view_is) (ap (told c.self.inside.snapshot.setup) c.in_err-reserve.ensures.items))

pub returns-in_err-move_to-clause-entered : goal.returns-in_err-move_to-clause-entered
returns-in_err-move_to-clause-entered c =
    MatchResult-from_err c.from_residual-in_err-move_to.result _ _ c.from_residual-in_err-move_to.ensures.0
    (λ err. rw (← c.self.view_is) (ap (told c.self.inside.snapshot.setup) c.in_ok-reserve.ensures.items))

pub returns-clause-entered : goal.returns-clause-entered
returns-clause-entered c =
    rw (← c.self.view_is) (told_same _ c.self.inside.snapshot.setup _ _ (ap (λ (s : Shot). s.setup) c.in_ok-snapshot.ensures)
    (pushed_on _ _ c.self.inside.history.items (record { who = c.args.who; command = Tick c.args.now }) c.push_reserved.ensures.items c.in_ok-reserve.ensures.items))
