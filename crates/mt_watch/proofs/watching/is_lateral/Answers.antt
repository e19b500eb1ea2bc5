use Rattle.std.proofs.Common.{◌≡◌, ◌∙◌, false, refl, sym}
use Rattle.mt_watch.specs.Private.Plane.{is_zero}
use Rattle.mt_watch.proofs.Sizes.{as_is}
use Rattle.mt_watch.proofs.watching.is_lateral.Goals as goal

pub returns : goal.returns
returns c =
    let moves : is_zero c.velocity-velocity.result ≡ false = sym c.is_zero.ensures ∙ c.if-is_zero.false in
    rw (
      c.is_beyond.ensures,
      as_is c.cross.result c.cross.ensures.kept,
      as_is c.dot-2.result c.dot-2.ensures.kept,
      c.cross.ensures.is,
      c.dot-2.ensures.is,
      c.offset-offset.ensures.is,
      c.velocity-velocity.ensures.is,
      rw c.velocity-velocity.ensures.is at moves,
    ) refl
