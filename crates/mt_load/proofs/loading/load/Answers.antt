use Rattle.std.proofs.Common.{rules}
use Rattle.mt_load.proofs.Begun.{run_begun}
use Rattle.mt_load.proofs.loading.load.Goals as goal

pub sum_up-requires : goal.sum_up-requires
sum_up-requires g c = (search rules, run_begun c.args.flights c.args.number c.drive.new.script c.in_ok-drive.ensures)
