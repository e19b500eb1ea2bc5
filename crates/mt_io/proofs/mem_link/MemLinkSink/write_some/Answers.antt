use Rattle.std.proofs.Common.{refl}
use Rattle.std.proofs.lemmas.Result.{err_from_is_err_and}
use Rattle.mt_io.proofs.mem_link.MemLinkSink.write_some.Goals as goal

pub returns-clause-bound : goal.returns-clause-bound
returns-clause-bound c = c.in_ok-count.ensures.bound

pub returns-clause-bytes : goal.returns-clause-bytes
returns-clause-bytes c = c.in_ok-count.ensures.bytes

pub returns-clause-takes : goal.returns-clause-takes
returns-clause-takes c = c.in_ok-count.ensures.takes

pub returns-clause-fails : goal.returns-clause-fails
returns-clause-fails c = c.in_ok-count.ensures.fails

pub returns-clause-counts : goal.returns-clause-counts
returns-clause-counts c = c.in_ok-count.ensures.counts

pub returns-clause-cause : goal.returns-clause-cause
returns-clause-cause c = c.in_ok-count.ensures.cause

pub returns-clause-kept : goal.returns-clause-kept
returns-clause-kept c = (refl, c.in_ok-count.ensures.kept)

pub returns-in_err-count-clause-bound : goal.returns-in_err-count-clause-bound
returns-in_err-count-clause-bound c = rw (err_from_is_err_and c.from_residual.result c.from_residual.ensures.1).1 c.in_err-count.ensures.bound

pub returns-in_err-count-clause-bytes : goal.returns-in_err-count-clause-bytes
returns-in_err-count-clause-bytes c = rw (err_from_is_err_and c.from_residual.result c.from_residual.ensures.1).1 c.in_err-count.ensures.bytes

pub returns-in_err-count-clause-takes : goal.returns-in_err-count-clause-takes
returns-in_err-count-clause-takes c = rw (err_from_is_err_and c.from_residual.result c.from_residual.ensures.1).1 c.in_err-count.ensures.takes

pub returns-in_err-count-clause-fails : goal.returns-in_err-count-clause-fails
returns-in_err-count-clause-fails c = rw (err_from_is_err_and c.from_residual.result c.from_residual.ensures.1).1 c.in_err-count.ensures.fails

pub returns-in_err-count-clause-counts : goal.returns-in_err-count-clause-counts
returns-in_err-count-clause-counts c = rw (err_from_is_err_and c.from_residual.result c.from_residual.ensures.1).1 c.in_err-count.ensures.counts

pub returns-in_err-count-clause-cause : goal.returns-in_err-count-clause-cause
returns-in_err-count-clause-cause c = rw (err_from_is_err_and c.from_residual.result c.from_residual.ensures.1).1 (record { later = c.in_err-count.ensures.cause.later; failed = c.in_err-count.ensures.cause.failed })

pub returns-in_err-count-clause-kept : goal.returns-in_err-count-clause-kept
returns-in_err-count-clause-kept c = (refl, c.in_err-count.ensures.kept)
