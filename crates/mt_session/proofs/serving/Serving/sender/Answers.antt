use Rattle.std.proofs.Common.{refl}
use Rattle.mt_session.proofs.serving.Serving.sender.Goals as goal

pub returns-in-None : goal.returns-in-None
returns-in-None g c = rw (← c.self.view_is, c.in-None.is) refl

pub returns-in-Some-Feed : goal.returns-in-Some-Feed
returns-in-Some-Feed g c =
    let role = rw c.in-Some-Feed.is at c.in-Some-Feed.field-0-is in
    rw (← c.self.view_is, c.in-Some-Feed.is, role) refl

pub returns-in-Some-Position : goal.returns-in-Some-Position
returns-in-Some-Position g c =
    let role = rw c.in-Some-Position.is at c.in-Some-Position.field-0-is in
    rw (← c.self.view_is, c.in-Some-Position.is, role) refl
