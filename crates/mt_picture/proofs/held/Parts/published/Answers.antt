use Rattle.mt_picture.proofs.Published.{published_now}
use Rattle.mt_picture.proofs.held.Parts.published.Goals as goal

pub returns : goal.returns
returns c =
    let p = c.self.inside in
    let is = rw (← c.published.ensures.same) at c.published.ensures.published in
    rw (← c.self.view_is) (published_now p.snapshot p.history.items p.kept c.published.result.now c.self.invariant c.keeps.ensures.sound is)
