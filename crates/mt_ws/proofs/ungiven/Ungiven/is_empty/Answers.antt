use Rattle.std.proofs.lemmas.Bool.{eqb-true, eq-eqb}
use Rattle.mt_ws.specs.Private.Messages.{bytes_in}
use Rattle.mt_ws.proofs.Giving.{none_left}
use Rattle.mt_ws.proofs.ungiven.Ungiven.is_empty.Goals as goal

pub returns-then-not-self : goal.returns-then-not-self
returns-then-not-self c =
    let is = none_left (bytes_in c.self.inside.message) c.self.inside.at c.self.invariant in
    rw (← c.self.view_is, c.if-not-self.true, c.bytes_of.ensures) ((λ e. is.0 (eqb-true _ _ e)), (λ e. eq-eqb _ _ (is.1 e)))
