use Rattle.std.proofs.Common.{Some, refl}
use Rattle.mt_probe.specs.Shot.{state_in_shot as state_in}
use Rattle.mt_picture.specs.declared.entering.Entering.{Entering}
use Rattle.mt_picture.specs.Private.Holding.{held_story}
use Rattle.mt_picture.proofs.Bounding.{none_preps}
use Rattle.mt_picture.proofs.Effected.{makes_by}
use Rattle.mt_picture.proofs.Passing.{few_entries, slot_there}
use Rattle.mt_picture.proofs.Preparing.{asked_within, prepared_now}
use Rattle.mt_picture.proofs.enter.enter_strand.Goals as goal

pub card_left-requires-clause-named : goal.card_left-requires-clause-named
card_left-requires-clause-named c = rw c.slot-named.ensures c.requires.effect.named

pub is_usable-known-requires-clause-named : goal.is_usable-known-requires-clause-named
is_usable-known-requires-clause-named c = rw c.slot-named.ensures c.requires.effect.named

pub unreachable-requires : goal.unreachable-requires
unreachable-requires c =
    makes_by c.args.held.now.snapshot c.args.command.now c.args.effect c.requires.prepared.makes c.requires.effect.does c.in_default.not-File c.in_default.not-Remake

pub file-requires-clause-enterable : goal.file-requires-clause-enterable
file-requires-clause-enterable c =
    let held = c.args.held.now in
    let picture = c.keeps.ensures.picture in
    let e : Entering = record { who = c.args.who; command = c.args.command; prep = c.args.prep; known = c.is_usable-known.result } in
    record {
      counted = few_entries held.snapshot.setup (state_in held.snapshot) c.args.who c.keeps.ensures.sound.rules c.args.command.now c.requires.passed;
      bounded = c.requires.bounded;
      prepared = prepared_now held.snapshot held.history c.keeps.ensures.sound picture.stands picture.stamped e c.in_ok-card.card c.requires.prepared
          c.keeps-2.ensures c.is_usable-known.ensures.usable c.in_ok-card.ensures;
    }

pub file-requires-clause-slot : goal.file-requires-clause-slot
file-requires-clause-slot c = let does = rw c.in-File.is at c.requires.effect.does in does.1.0

pub file-requires-clause-free : goal.file-requires-clause-free
file-requires-clause-free c = let does = rw c.in-File.is at c.requires.effect.does in does.1.1

pub file-requires-clause-filing : goal.file-requires-clause-filing
file-requires-clause-filing c = let does = rw c.in-File.is at c.requires.effect.does in does.0

pub remake-requires-clause-remaking : goal.remake-requires-clause-remaking
remake-requires-clause-remaking c = rw c.in-Remake.is at c.requires.effect.does

pub remake-requires-clause-there : goal.remake-requires-clause-there
remake-requires-clause-there c =
    let named = rw c.in-Remake.is at c.requires.effect.named in
    slot_there c.args.held.now.snapshot c.args.command.now c.in-Remake.slot c.in_ok-card.card.call named c.in_ok-card.ensures.call_is

pub remake-requires-clause-enterable : goal.remake-requires-clause-enterable
remake-requires-clause-enterable c =
    let held = c.args.held.now in
    let picture = c.keeps.ensures.picture in
    let e : Entering = record { who = c.args.who; command = c.args.command; prep = c.args.prep; known = c.is_usable-known.result } in
    record {
      counted = few_entries held.snapshot.setup (state_in held.snapshot) c.args.who c.keeps.ensures.sound.rules c.args.command.now c.requires.passed;
      bounded = c.requires.bounded;
      prepared = prepared_now held.snapshot held.history c.keeps.ensures.sound picture.stands picture.stamped e c.in_ok-card.card c.requires.prepared
          c.keeps-2.ensures c.is_usable-known.ensures.usable c.in_ok-card.ensures;
    }

pub returns-in_err-card-clause-counted : goal.returns-in_err-card-clause-counted
returns-in_err-card-clause-counted c =
    none_preps (held_story c.args.held.now) c.args.who c.args.command.now (Some c.args.prep.now) c.args.tests.now c.args.tests.now refl

pub returns-in-File-clause-counted : goal.returns-in-File-clause-counted
returns-in-File-clause-counted c =
    let held = c.args.held.now in
    let picture = c.keeps.ensures.picture in
    let e : Entering = record { who = c.args.who; command = c.args.command; prep = c.args.prep; known = c.is_usable-known.result } in
    asked_within held.snapshot held.history c.keeps.ensures.sound picture.stands picture.stamped e c.in_ok-card.card c.requires.prepared c.keeps-2.ensures c.is_usable-known.ensures.usable c.in_ok-card.ensures
    _ _ c.is_usable-known.ensures.unusable c.file.ensures.counted

pub returns-in-Remake-clause-counted : goal.returns-in-Remake-clause-counted
returns-in-Remake-clause-counted c =
    let held = c.args.held.now in
    let picture = c.keeps.ensures.picture in
    let e : Entering = record { who = c.args.who; command = c.args.command; prep = c.args.prep; known = c.is_usable-known.result } in
    asked_within held.snapshot held.history c.keeps.ensures.sound picture.stands picture.stamped e c.in_ok-card.card c.requires.prepared c.keeps-2.ensures c.is_usable-known.ensures.usable c.in_ok-card.ensures
    _ _ c.is_usable-known.ensures.unusable c.remake.ensures.counted
