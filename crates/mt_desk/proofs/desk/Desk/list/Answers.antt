use Rattle.std.proofs.Common.{◌≡◌, List, length, sym, ap, ◌∙◌}
use Rattle.std.proofs.lemmas.Result.{err_from_is_err_and}
use Rattle.mt_base.specs.declared.command.Entry.{Entry}
use Rattle.mt_picture.specs.Story.{Story}
use Rattle.mt_desk.proofs.Answered.{seen_at}
use Rattle.mt_desk.proofs.Turning.{has_turn, sees_turn}
use Rattle.mt_desk.proofs.desk.Desk.list.Goals as goal

pub leave-requires-clause-holds : goal.leave-requires-clause-holds
leave-requires-clause-holds g c = has_turn c.args.seat.now.view c.enter-held.new.seat.view c.enter-held.result.lent.history c.enter-held.ensures.holds

pub returns-in_err-conflicts-clause-read : goal.returns-in_err-conflicts-clause-read
returns-in_err-conflicts-clause-read g c =
    let seen = sees_turn c.args.self.now.fixed c.args.seat.now.view c.enter-held.new.seat.view c.leave.new.seat.view c.enter-held.result.lent
    c.enter-held.result.value c.enter-held.ensures.holds c.enter-held.ensures.unchanged c.enter-held.ensures.lent.same c.requires.ready.fixed_is
    (rw c.value-legal.ensures at c.version-version.ensures.kept) c.enter-held.ensures.lent.mine_seen c.leave.ensures.left in
    let p = err_from_is_err_and c.from_residual.result c.from_residual.ensures.1 in
    rw (p.1, p.2) seen.looked

-- the version is that of the turn in which it was copied
pub returns-clause-read : goal.returns-clause-read
returns-clause-read g c =
    let seen = sees_turn c.args.self.now.fixed c.args.seat.now.view c.enter-held.new.seat.view c.leave.new.seat.view c.enter-held.result.lent
    c.enter-held.result.value c.enter-held.ensures.holds c.enter-held.ensures.unchanged c.enter-held.ensures.lent.same c.requires.ready.fixed_is
    (rw c.value-legal.ensures at c.version-version.ensures.kept) c.enter-held.ensures.lent.mine_seen c.leave.ensures.left in
    let version : c.version-version.result ≡ length c.leave.new.seat.view.seen =
    c.version-version.ensures.version ∙ ap (λ (p : Story). length p.history) c.value-legal.ensures
    ∙ ap (λ (es : List Entry). length es) (sym c.leave.ensures.left.seen) in
    let setup : c.enter-held.result.value.setup ≡ c.args.self.now.fixed =
    (let same = c.enter-held.ensures.lent.same ∙ c.requires.ready.fixed_is in cc) in (
      seen_at _ _ c.version-version.result seen version,
      rw (c.leave.ensures.left.seen, ← setup, ← c.value-legal.ensures) c.in_ok-conflicts.ensures,
    )
