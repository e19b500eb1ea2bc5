use Rattle.std.proofs.Common.{◌∙◌}
use Rattle.mt_picture.proofs.Published.{version_now}
use Rattle.mt_picture.proofs.picture.Picture.version.Goals as goal

pub returns : goal.returns
returns c =
    let p = c.self.inside.held in
    rw (← c.self.view_is) (rw c.snapshot.ensures.value at c.version.ensures.version ∙ version_now p.snapshot p.history c.snapshot.ensures.stands)
