use Rattle.std.proofs.Common.{◌≡◌, ◌≤◌, All, length, take, true}
use Rattle.mt_base.specs.Name.{is_name}
use Rattle.mt_base.specs.Settled.{due_calls}
use Rattle.mt_probe.specs.Shot.{records_in}
use Rattle.mt_snapshot.proofs.renewals.due.Given as goal

abbrev pub invariant-loop-filed : goal.invariant-loop-filed
invariant-loop-filed l = record {
  exact : l.calls ≡ due_calls (take l.filed-index (records_in l.snapshot.slots));
  few : length l.calls ≤ l.filed-index;
  named : All (λ call. is_name 1 7 call ≡ true) l.calls;
}
