use Rattle.std.proofs.Common.{◌∙◌, sym}
use Rattle.std.specs.Arc.{arc_value}
use Rattle.mt_load.proofs.Counted.{rebuilt_count}
use Rattle.mt_load.proofs.Rebuilding.{wants_memory}
use Rattle.mt_load.proofs.again.again.Goals as goal

pub unreachable-requires : goal.unreachable-requires
unreachable-requires g c =
    let memory = wants_memory c.args.picture.now.setup c.in_ok-entries.entries c.rules.result (arc_value c.args.tables) c.in-Err-Illegal.field-0
    (c.in_ok-entries.ensures.replayable c.requires.replayable) c.rules.ensures.rules c.requires.tables c.in-Err-Illegal.ensures.wrong in
    let both = sym c.in-Err-Illegal.field-0-is ∙ memory in
    cc

pub unreachable-requires-in-Err-Late : goal.unreachable-requires-in-Err-Late
unreachable-requires-in-Err-Late g c =
    let memory = wants_memory c.args.picture.now.setup c.in_ok-entries.entries c.rules.result (arc_value c.args.tables) c.in-Err-Late.field-0
    (c.in_ok-entries.ensures.replayable c.requires.replayable) c.rules.ensures.rules c.requires.tables c.in-Err-Late.ensures.wrong in
    let both = sym c.in-Err-Late.field-0-is ∙ memory in
    cc

pub returns-in-Ok : goal.returns-in-Ok
returns-in-Ok g c =
    rebuilt_count c.args.picture.now.setup c.args.picture.now.history c.in_ok-entries.entries c.rules.result (arc_value c.args.tables) c.in-Ok.rebuilt
    c.published.result.now c.in_ok-entries.ensures.read c.in-Ok.ensures.rebuilt c.rules.ensures.rules c.requires.tables c.published.ensures
