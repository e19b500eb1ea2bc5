use Rattle.std.proofs.Common.{sym, ◌∙◌}
use Rattle.mt_track.specs.Named.{named}
use Rattle.mt_kept.proofs.Windows.{span_shown}
use Rattle.mt_kept.proofs.later.span_later.Goals as goal

pub returns-then-not-is_tested-clause-conflict : goal.returns-then-not-is_tested-clause-conflict
returns-then-not-is_tested-clause-conflict c =
    rw c.span_within.ensures (span_shown c.args.rules.now (named c.args.left.now).path (named c.args.right.now).path c.args.now c.args.pair.now.edge
    c.requires.early c.requires.opened.1 (sym c.is_tested.ensures ∙ c.if-not-is_tested.true) c.requires.span c.requires.solid)
