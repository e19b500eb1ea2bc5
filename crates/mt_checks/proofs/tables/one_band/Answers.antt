use Rattle.std.proofs.Common.{[], All, arith}
use Rattle.std.proofs.lemmas.List.Elements.{All-push}
use Rattle.mt_base.specs.Bounds.{IsBoundedBand}
use Rattle.mt_checks.proofs.tables.one_band.Goals as goal

none : All IsBoundedBand []
none k d below = absurd (omega arith)

pub returns : goal.returns
returns c = record {
  some = omega arith;
  few = omega arith;
  each = All-push IsBoundedBand [] c.band.result none c.band.ensures;
}
