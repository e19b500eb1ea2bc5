use Rattle.std.proofs.Common.{◌≡◌, ap, ◌∙◌, ◌+ℤ◌}
use Rattle.mt_cover.specs.Box.{wider}
use Rattle.mt_track.proofs.Bits.{in_64}
use Rattle.mt_cover.proofs.Numbers.{sum_is}
use Rattle.mt_cover.proofs.sliced.slice_around.Goals as goal

pub returns-clause-is : goal.returns-clause-is
returns-clause-is c =
    let by : in_64 (in_64 c.args.bounds.margin +ℤ in_64 c.args.half) ≡ c.args.bounds.margin +ℤ c.args.half =
    sum_is c.args.bounds.margin c.args.half c.requires.kept.margin c.requires.half_kept in
    let x = c.wider.ensures.is ∙ ap (wider c.args.bounds.x) by in
    let y = c.wider-2.ensures.is ∙ ap (wider c.args.bounds.y) by in
    λ i. record { x = x i; y = y i; layer = c.args.bounds.layer }
