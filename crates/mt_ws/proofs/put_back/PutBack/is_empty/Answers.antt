use Rattle.std.proofs.Common.{◌≡◌, length, rules}
use Rattle.std.proofs.lemmas.Bool.{eqb-true, eq-eqb}
use Rattle.mt_ws.proofs.Giving.{all_given}
use Rattle.mt_ws.proofs.put_back.PutBack.is_empty.Goals as goal

pub returns : goal.returns
returns c =
    let is = all_given c.self.inside.bytes.items c.self.inside.at c.self.invariant in
    let whole : c.len.result ≡ length c.self.inside.bytes.items = search rules in
    rw (← c.self.view_is, whole) ((λ e. is.0 (eqb-true _ _ e)), (λ e. eq-eqb _ _ (is.1 e)))
