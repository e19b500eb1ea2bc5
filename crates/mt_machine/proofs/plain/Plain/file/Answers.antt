use Rattle.std.proofs.Common.{◌∷◌, [], ◌++◌, ap}
use Rattle.std.proofs.lemmas.Result.{err_from_is_err_and}
use Rattle.mt_base.specs.Picture.{State}
use Rattle.mt_machine.proofs.plain.Plain.file.Goals as goal

pub returns-in_err-push-clause-err : goal.returns-in_err-push-clause-err
returns-in_err-push-clause-err c =
    let p = err_from_is_err_and c.from_residual.result c.from_residual.ensures.1 in
    rw (p.1, c.in_err-push.ensures.items) c.self.view_is

pub returns-clause-ok : goal.returns-clause-ok
returns-clause-ok c = rw c.in_ok-push.ensures.items (ap (λ (s : State). record s { records = s.records ++ c.args.flight ∷ [] }) c.self.view_is)
