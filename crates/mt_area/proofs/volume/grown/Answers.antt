use Rattle.mt_area.proofs.Volumes.{Holds-by_bits, height_in_plane}
use Rattle.mt_area.proofs.volume.grown.Goals as goal

pub returns-clause-holds : goal.returns-clause-holds
returns-clause-holds c =
    let row = c.args.row.now in
    record {
      x = Holds-by_bits c.with.result row.x c.requires.0.0 c.with.ensures.holds;
      y = Holds-by_bits c.with-2.result row.y c.requires.0.1 c.with-2.ensures.holds;
      z = Holds-by_bits c.with-3.result row.z (height_in_plane row.z c.requires.1) c.with-3.ensures.holds;
    }

pub returns-clause-wider : goal.returns-clause-wider
returns-clause-wider c = record { x = c.with.ensures.wider; y = c.with-2.ensures.wider; z = c.with-3.ensures.wider }
