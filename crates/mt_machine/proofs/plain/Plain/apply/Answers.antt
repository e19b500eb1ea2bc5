use Rattle.mt_base.specs.Tables.{setup_with}
use Rattle.std.proofs.Common.{◌∙◌, ap, rules}
use Rattle.mt_base.specs.Picture.{State}
use Rattle.mt_machine.specs.contracts.plain.Plain.{the_view}
use Rattle.mt_machine.proofs.Effects.{filled_is, passed, sound_counted}
use Rattle.mt_machine.proofs.plain.Plain.apply.Goals as goal

pub change-requires-clause-passed : goal.change-requires-clause-passed
change-requires-clause-passed c =
    passed (setup_with c.args.rules.now c.args.tables.now) c.args.self.now c.args.entry.now c.requires.decided

pub change-requires-clause-filled : goal.change-requires-clause-filled
change-requires-clause-filled c =
    filled_is (setup_with c.args.rules.now c.args.tables.now) c.args.self.now c.args.entry.now c.requires.decided

pub returns-clause-sound : goal.returns-clause-sound
returns-clause-sound c = sound_counted (setup_with c.args.rules.now c.args.tables.now) c.args.self.now (the_view c.self.inside)
    c.args.entry.now c.requires.decided c.requires.rules (rw c.self.view_is c.in_ok-verdict.ensures.sound)
    (ap (λ (s : State). s.version) (c.self.view_is ∙ c.in_ok-verdict.ensures.ok))

-- the version is that with the entry
pub returns-clause-entered : goal.returns-clause-entered
returns-clause-entered c = search rules

pub returns-clause-ok : goal.returns-clause-ok
returns-clause-ok c = search rules
