use Rattle.std.proofs.Common.{◌≡◌, ap, ◌∙◌, ◌+ℤ◌, ℤ}
use Rattle.mt_cover.specs.Box.{half, wider}
use Rattle.mt_track.proofs.Bits.{in_64}
use Rattle.mt_cover.proofs.Numbers.{sum_is}
use Rattle.mt_cover.proofs.stays.Cover.add.Goals as goal

pub returns : goal.returns
returns c =
    let by : in_64 (in_64 c.args.bounds.margin +ℤ in_64 c.half.result) ≡ c.args.bounds.margin +ℤ half c.args.rules.now =
    sum_is c.args.bounds.margin c.half.result c.requires.kept.margin c.half.ensures.kept ∙ ap (λ (z : ℤ). c.args.bounds.margin +ℤ z) c.half.ensures.is in
    let x = c.wider.ensures.is ∙ ap (wider c.args.bounds.x) by in
    let y = c.wider-2.ensures.is ∙ ap (wider c.args.bounds.y) by in
    rw (x, y) at c.add_cells.ensures
