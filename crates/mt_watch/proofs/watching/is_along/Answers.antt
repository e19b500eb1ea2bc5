use Rattle.std.proofs.Common.{refl}
use Rattle.mt_watch.proofs.Sizes.{as_is}
use Rattle.mt_watch.proofs.watching.is_along.Goals as goal

pub returns : goal.returns
returns c =
    rw (
      c.is_beyond.ensures,
      as_is c.dot.result c.dot.ensures.kept,
      as_is c.dot-2.result c.dot-2.ensures.kept,
      c.dot.ensures.is,
      c.dot-2.ensures.is,
      c.offset-offset.ensures.is,
      c.velocity-velocity.ensures.is,
    ) refl
