use Rattle.std.proofs.Common.{◌++◌, ℕ, List, ap, ◌∙◌, arith}
use Rattle.mt_cover.specs.declared.stays.Stay.{Stay}
use Rattle.mt_cover.specs.Cells.{cells_in, stays_of}
use Rattle.mt_cover.proofs.Counted.{cells_is, flat_map_on}
use Rattle.mt_cover.proofs.Law.{place_rises}
use Rattle.mt_track.proofs.Bits.{near_32}
use Rattle.mt_cover.proofs.stays.Cover.add_cells.Goals as goal

pub loop-line-preserved : goal.loop-line-preserved
loop-line-preserved c =
    c.in_ok-add_line.ensures ∙ ap (λ (list : List Stay). list ++ stays_of c.args.from c.args.to (cells_in c.args.x c.loop-line.line)) c.loop-line.invariant
    ∙ flat_map_on (λ (line : ℕ). stays_of c.args.from c.args.to (cells_in c.args.x line)) _ c.place-first.result c.loop-line.line (omega arith)

pub returns : goal.returns
returns c =
    let first = rw (near_32 c.args.y.low c.requires.y_kept.low) at c.place-first.ensures.is in
    let end = rw (near_32 c.args.y.high c.requires.y_kept.high) at c.place-end.ensures.is in
    let rises = place_rises c.args.y.low c.args.y.high c.requires.y_kept.ordered in
    c.loop-line.invariant ∙ ap (λ (list : List Stay). c.args.self.now ++ list) (cells_is c.args.x c.args.y c.args.from c.args.to _ c.loop-line.line first
    (omega (arith, first, end, rises)))
