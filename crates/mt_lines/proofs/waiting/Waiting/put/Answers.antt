use Rattle.std.proofs.lemmas.Result.{err_from_is_err_and, on_err_weaker, on_ok_weaker}
use Rattle.mt_lines.proofs.Leaving.{both, front_of_text, front_of_waiting}
use Rattle.mt_lines.proofs.waiting.Waiting.put.Goals as goal

pub returns-in_err-flush-clause-err : goal.returns-in_err-flush-clause-err
returns-in_err-flush-clause-err g c =
    rw (err_from_is_err_and c.from_residual.result c.from_residual.ensures.1).1 (front_of_waiting _ _ _ c.args.text.now c.in_err-flush.ensures.err.1)

pub returns-clause-ok : goal.returns-clause-ok
returns-clause-ok g c = on_ok_weaker c.put_all.result (λ written. both _ _ _ _ _ _ c.in_ok-flush.ensures.none c.in_ok-flush.ensures.ok written) c.put_all.ensures.ok

pub returns-clause-err : goal.returns-clause-err
returns-clause-err g c = on_err_weaker c.put_all.result (λ front. front_of_text _ _ _ _ _ c.in_ok-flush.ensures.ok front) c.put_all.ensures.err
