use Rattle.std.proofs.Common.{◌≡◌, ◌+◌, ◌*◌, ◌<◌, ◌++◌, List, min, refl, sym, ap, ◌∙◌, arith}
use Rattle.mt_cover.specs.declared.stays.Stay.{Stay}
use Rattle.mt_cover.specs.Cells.{stays_in}
use Rattle.mt_cover.proofs.Counted.{flat_map_next}
use Rattle.mt_cover.proofs.InGrid.{All-slices}
use Rattle.mt_cover.proofs.Cut.{slice_is}
use Rattle.mt_cover.proofs.walk.cover.Goals as goal

pub loop-slice-preserved : goal.loop-slice-preserved
loop-slice-preserved c =
    let start = c.start-start.ensures in
    let end = c.end-end.ensures.end in
    let rows = c.segments-segments.ensures.are.rows in
    let from : c.start-start.result + 256 * c.loop-slice.slice ≡ c.args.strand.now.start + 256 * c.loop-slice.slice = omega (arith, start) in
    let some : c.start-start.result + 256 * c.loop-slice.slice < c.end-end.result = omega (arith, c.div_ceil-slice-end.ensures) in
    let whole = rw start at c.gather-gathered.ensures.is in
    let slice = slice_is c.args.rules.now c.args.strand.now _ c.loop-slice.slice c.end-end.result (c.args.strand.now.start + 256 * c.loop-slice.slice) c.min-to.result
    c.gather-gathered.result.bounds rows end refl (rw start at c.min-to.ensures) (omega (arith, from, some)) whole in
    let next : c.min-to.result ≡ min c.end-end.result (c.start-start.result + 256 * (c.loop-slice.slice + 1)) = omega (arith, c.min-to.ensures) in
    let added = rw start at c.in_ok-add.ensures in
    record {
      stands = rw (← next) c.gather-gathered.ensures.stands;
      is = added ∙ ap (λ (list : List Stay). c.loop-slice.cover ++ list) (sym slice)
          ∙ ap (λ (list : List Stay). list ++ stays_in c.args.rules.now c.args.strand.now c.loop-slice.slice) c.loop-slice.invariant.is
          ∙ flat_map_next (stays_in c.args.rules.now c.args.strand.now) c.loop-slice.slice;
    }

pub returns-clause-in_grid : goal.returns-clause-in_grid
returns-clause-in_grid c = rw c.loop-slice.invariant.is (All-slices c.args.rules.now c.args.strand.now c.loop-slice.slice)
