use Rattle.std.proofs.Common.{Some, None, Ok, ap, sym, ◌∙◌}
use Rattle.std.proofs.lemmas.List.{append-nil}
use Rattle.mt_snapshot.proofs.Probes.{one_try}
use Rattle.mt_snapshot.proofs.trying.free_of.Goals as goal

pub loop-found-preserved-in-Continue-branch-3 : goal.loop-found-preserved-in-Continue-branch-3
loop-found-preserved-in-Continue-branch-3 c =
    one_try c.loop-found.yielded c.in-Some.found c.loop-found.free.items c.push.new.self.items (Some c.in-Some-2.probe) c.loop-found.invariant
    (c.in_ok-probe.was ∙ ap Ok c.in-Some-2.is) c.in_ok-push.ensures.items

pub loop-found-preserved : goal.loop-found-preserved
loop-found-preserved c =
    one_try c.loop-found.yielded c.in-Some.found c.loop-found.free.items c.loop-found.free.items None c.loop-found.invariant
    (c.in_ok-probe.was ∙ ap Ok c.in_default.is) (sym (append-nil c.loop-found.free.items))
