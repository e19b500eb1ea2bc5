use Rattle.std.proofs.Common.{sym, ◌∙◌}
use Rattle.std.proofs.lemmas.Result.{on_ok_weaker}
use Rattle.mt_track.specs.Named.{named}
use Rattle.mt_plain.proofs.Found.{Adds-found, Adds-none, none_found}
use Rattle.mt_plain.proofs.Tallies.{less_from_lt, raised_by-pair}
use Rattle.mt_plain.proofs.pairs.add_pair.Goals as goal

pub returns-in_default-clause-found : goal.returns-in_default-clause-found
returns-in_default-clause-found c =
    let none = rw (c.deref.ensures, c.deref-2.ensures) at c.in_default.ensures.conflict in
    Adds-none _ _ (none_found c.args.rules.now c.args.now (named c.args.left.now) (named c.args.right.now) none)

pub returns-clause-found : goal.returns-clause-found
returns-clause-found c =
    let span = rw (c.deref.ensures, c.deref-2.ensures) at c.in-Some.ensures.conflict in
    on_ok_weaker _ (Adds-found c.args.rules.now c.args.now (named c.args.left.now) (named c.args.right.now) c.in-Some.first c.in-Some.last
    c.args.found.now c.push.new.self (less_from_lt _ (sym c.if-not-are_pair.false ∙ c.are_pair.ensures)) span) c.push.ensures.ok

pub returns-clause-counted : goal.returns-clause-counted
returns-clause-counted c =
    raised_by-pair (named c.args.left.now) (named c.args.right.now) _ _ (less_from_lt _ (sym c.if-not-are_pair.false ∙ c.are_pair.ensures)) c.lose.ensures.counted
