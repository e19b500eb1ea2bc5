use Rattle.std.proofs.Common.{◌+◌, None, Some, sym, ◌∙◌}
use Rattle.mt_base.specs.Conflict.{IsConflict, IsSpanOfLoss}
use Rattle.mt_base.specs.Picture.{window_end}
use Rattle.mt_track.specs.Named.{named}
use Rattle.mt_kept.specs.Private.Made.{span_within}
use Rattle.mt_kept.proofs.Publishing.{found_pair}
use Rattle.mt_kept.proofs.Windows.{span_shown, window_within}
use Rattle.mt_kept.proofs.showing.shown_pair.Goals as goal
use Rattle.mt_kept.proofs.showing.shown_pair.Goals.{then-is_tested+in_ok-span, else-is_tested}

pub returns-in_err-span-clause-found : goal.returns-in_err-span-clause-found
returns-in_err-span-clause-found c =
    let left = (named c.args.left.now).path in
    let right = (named c.args.right.now).path in
    let none : IsConflict c.args.rules.now left right (span_within c.args.now c.args.edge.now).0 ((span_within c.args.now c.args.edge.now).1 + 1) None =
    rw (c.span_within-within.ensures, c.deref.ensures, c.deref-then-is_tested.ensures) at c.in_err-span.ensures.conflict in
    rw c.from_residual.ensures (window_within c.args.rules.now left right c.args.now c.args.edge.now None c.requires.early c.requires.span none)

pub returns-clause-found : goal.returns-clause-found
returns-clause-found c =
    let left = named c.args.left.now in
    let right = named c.args.right.now in
    let span : IsSpanOfLoss c.args.rules.now left.path right.path c.args.now (window_end c.args.now) c.if-is_tested.span.0 c.if-is_tested.span.1 =
    elim c.if-is_tested.branch [
      | then-is_tested+in_ok-span w ↦ rw w.span-is (window_within c.args.rules.now left.path right.path c.args.now c.args.edge.now (Some w.in_ok-span.span)
          c.requires.early c.requires.span (rw (c.span_within-within.ensures, w.deref.ensures, w.deref-then-is_tested.ensures) at w.in_ok-span.ensures.conflict))
      | else-is_tested w ↦ rw (w.span-is, c.span_within-within.ensures) (span_shown c.args.rules.now left.path right.path c.args.now c.args.edge.now
          c.requires.early c.requires.opened (sym c.is_tested.ensures ∙ w.if-is_tested.false) c.requires.span c.requires.solid)
    ] in
    found_pair c.args.rules.now c.args.now left right c.if-is_tested.span c.paired.result span c.paired.ensures
