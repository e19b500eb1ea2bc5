use Rattle.mt_base.specs.Tables.{setup_with}
use Rattle.std.proofs.Common.{sym, ◌∙◌, option_copied, ap, rules}
use Rattle.std.specs.Str.{bytes_eq}
use Rattle.mt_base.specs.Bounds.{IsSoundFlight}
use Rattle.mt_machine.proofs.Found.{found}
use Rattle.mt_machine.proofs.plain.Plain.view.Goals as goal

pub strand_of_path-requires-clause-sound : goal.strand_of_path-requires-clause-sound
strand_of_path-requires-clause-sound c = found (IsSoundFlight (setup_with c.args.rules.now c.args.tables.now))
    (λ flight. bytes_eq flight.call c.args.call) c.args.self.now.records c.in-Some.flight.now c.requires.sound.sound
    (sym c.flight.ensures ∙ ap option_copied c.in-Some.is)

-- the second that was asked for, or the moment
pub returns : goal.returns
returns c = search rules
