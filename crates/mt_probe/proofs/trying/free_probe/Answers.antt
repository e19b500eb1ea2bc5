use Rattle.std.proofs.Common.{[], sym, ◌∙◌, true≢false}
use Rattle.mt_probe.proofs.HitPlaces.{none_listed}
use Rattle.mt_probe.proofs.Tried.{conflicting, follows}
use Rattle.mt_probe.proofs.trying.free_probe.Goals as goal

pub returns-then-branch-clause-found : goal.returns-then-branch-clause-found
returns-then-branch-clause-found c =
    conflicting c.args.snapshot.now c.args.call c.args.clearance c.args.eff c.args.card.now c.deref.result.now c.keeps.ensures.sound.rules c.requires.left
    (rw (← c.deref.ensures) at c.in_ok-strand.ensures) (c.in_ok-has_hit.ensures.hit.0 c.if-branch.true)

pub probe_with-requires-clause-follows : goal.probe_with-requires-clause-follows
probe_with-requires-clause-follows c = rw (c.of-none.ensures, c.new.ensures.items)
    (follows c.args.snapshot.now c.args.call c.args.clearance c.args.eff c.args.card.now c.deref.result.now [] c.keeps.ensures.sound.rules c.requires.left
    (rw (← c.deref.ensures) at c.in_ok-strand.ensures)
    (none_listed c.args.snapshot.now.setup _ c.args.card.now.call c.deref.result.now
    (λ has. true≢false (sym (c.in_ok-has_hit.ensures.hit.1 has) ∙ c.if-branch.false))))
