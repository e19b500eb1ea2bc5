use Rattle.std.proofs.Common.{◌≡◌, List, ap, subst}
use Rattle.std.specs.Arc.{arc_value}
use Rattle.mt_base.specs.declared.command.Entry.{Entry}
use Rattle.mt_base.specs.History.{IsReplayable}
use Rattle.mt_base.specs.Tables.{Setup, setup_with}
use Rattle.mt_picture.specs.Story.{Story}
use Rattle.mt_history.proofs.rebuilding.rebuild.Goals as goal

pub returns-clause-replayable : goal.returns-clause-replayable
returns-clause-replayable g c =
    let setup : c.in_ok-picture.picture.setup ≡ setup_with c.args.rules (arc_value c.args.tables) = ap (λ (s : Story). s.setup) c.in_ok-picture.ensures in
    subst (λ (s : Setup). IsReplayable s c.args.entries.now) setup
    (subst (λ (h : List Entry). IsReplayable c.in_ok-picture.picture.setup h) c.items.ensures c.in_ok-put_all.ensures.replayable)
