use Rattle.mt_probe.proofs.Tried.{early_from, tried_left, unprobed}
use Rattle.mt_probe.proofs.trying.what_if.Goals as goal

pub accepted-requires-clause-early : goal.accepted-requires-clause-early
accepted-requires-clause-early c =
    rw c.unwrap_or-eff.ensures (early_from c.args.eff c.now.result c.requires.early c.now.ensures.early)

pub returns-in_err-probe_of-in-Ok-clause-counted : goal.returns-in_err-probe_of-in-Ok-clause-counted
returns-in_err-probe_of-in-Ok-clause-counted c =
    let left = rw (c.unwrap_or-eff.ensures, c.now.ensures.now) at c.in-Ok.ensures.left in
    tried_left c.args.snapshot.now c.args.call c.args.clearance c.args.eff c.in-Ok.card _ _ left c.probe_of.ensures.counted

pub returns-in_ok-probe_of-in-Ok-clause-counted : goal.returns-in_ok-probe_of-in-Ok-clause-counted
returns-in_ok-probe_of-in-Ok-clause-counted c =
    let left = rw (c.unwrap_or-eff.ensures, c.now.ensures.now) at c.in-Ok.ensures.left in
    tried_left c.args.snapshot.now c.args.call c.args.clearance c.args.eff c.in-Ok.card _ _ left c.probe_of.ensures.counted

pub returns-in-Err-clause-refused : goal.returns-in-Err-clause-refused
returns-in-Err-clause-refused c =
    let refused = rw (c.unwrap_or-eff.ensures, c.now.ensures.now) at c.in-Err.ensures.refused in
    unprobed c.args.snapshot.now c.args.call c.args.clearance c.args.eff c.in-Err.no c.keeps.ensures.sound.rules refused
