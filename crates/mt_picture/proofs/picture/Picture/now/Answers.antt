use Rattle.std.proofs.Common.{◌∙◌, ap}
use Rattle.mt_base.specs.Picture.{State}
use Rattle.mt_picture.proofs.picture.Picture.now.Goals as goal

pub returns : goal.returns
returns c = rw (← c.self.view_is) (rw c.snapshot.ensures.value at c.now.ensures.now ∙ ap (λ (s : State). s.now) c.snapshot.ensures.stands)
