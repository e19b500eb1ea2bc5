use Rattle.std.proofs.Common.{◌++◌, ◌∷◌, [], List, ap, ◌∙◌, arith}
use Rattle.mt_cover.specs.declared.stays.Stay.{Stay}
use Rattle.mt_cover.proofs.Counted.{line_is, map_more, stay}
use Rattle.mt_cover.proofs.Law.{place_rises}
use Rattle.mt_track.proofs.Bits.{near_32}
use Rattle.mt_cover.proofs.stays.Cover.add_line.Goals as goal

pub loop-column-preserved : goal.loop-column-preserved
loop-column-preserved c =
    c.in_ok-push.ensures ∙ ap (λ (list : List Stay). list ++ stay c.args.line c.args.from c.args.to c.loop-column.column ∷ []) c.loop-column.invariant
    ∙ map_more (stay c.args.line c.args.from c.args.to) _ c.place-first.result c.loop-column.column (omega arith)

pub returns : goal.returns
returns c =
    let first = rw (near_32 c.args.x.low c.requires.kept.low) at c.place-first.ensures.is in
    let end = rw (near_32 c.args.x.high c.requires.kept.high) at c.place-end.ensures.is in
    let rises = place_rises c.args.x.low c.args.x.high c.requires.kept.ordered in
    c.loop-column.invariant ∙ ap (λ (list : List Stay). c.args.self.now ++ list) (line_is c.args.x c.args.line c.args.from c.args.to _ c.loop-column.column first
    (omega (arith, first, end, rises)))
