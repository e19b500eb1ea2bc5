use Rattle.std.proofs.Common.{refl, sym, ◌∙◌, ap, subst, arith}
use Rattle.mt_base.specs.declared.command.Command.TheVariants.{Renew}
use Rattle.mt_board.specs.Changing.{IsChanged}
use Rattle.mt_session.specs.Session.{with_seat}
use Rattle.mt_session.proofs.Renewals.{all_renewed, broken, none_renewed, renewed_at, settled, starved_is, told_is, unread}
use Rattle.mt_session.proofs.Stays.{stays_itself, stays_on}
use Rattle.mt_session.proofs.serving.Serving.settled.Goals as goal

pub returns-then-is_starved-clause-settled : goal.returns-then-is_starved-clause-settled
returns-then-is_starved-clause-settled g c =
    let (first, read, is_first) = c.read.ensures.read in
    let told = told_is c.read.result _ (sym c.due.ensures ∙ c.in-Some.is) in
    let renewed = rw (is_first, c.items-call-items.ensures) at c.loop-call.invariant.renewed in
    let same = rw is_first at c.loop-call.invariant.same in
    let (last, changed, is_last) = c.change-renewed.ensures.changed in
    let starved = starved_is c.change-renewed.result (sym c.is_starved.ensures ∙ c.if-is_starved.true) in
    (last, broken _ _ _ _ _ _ (rw told at read) _ c.call-item.result renewed (rw starved at changed), is_last ∙ ap (λ s. with_seat s last) same)

pub loop-call-preserved : goal.loop-call-preserved
loop-call-preserved g c =
    let so_far = c.loop-call.invariant in
    let (last, changed, is_last) = c.change-renewed.ensures.changed in
    let made = sym c.is_starved.ensures ∙ c.if-is_starved.false in
    let here = subst (λ call. IsChanged c.loop-call.self.session.seat (Renew call) c.change-renewed.result last) c.call-item.is changed in
    record {
      renewed = rw is_last (renewed_at _ _ _ _ _ _ _ (omega arith) so_far.renewed here made);
      same = rw is_last (ap (λ s. with_seat s last) so_far.same);
      on = stays_on _ _ _ so_far.on c.change-renewed.ensures.on;
    }

pub returns-clause-settled : goal.returns-clause-settled
returns-clause-settled g c =
    let (first, read, is_first) = c.read.ensures.read in
    let told = told_is c.read.result _ (sym c.due.ensures ∙ c.in-Some.is) in
    let renewed = rw is_first at (all_renewed _ _ _ c.loop-call.call-index _ c.items-call-items.ensures (omega arith) c.loop-call.invariant.renewed) in
    let same = rw is_first at c.loop-call.invariant.same in
    let (last, again, is_last) = c.read-2.ensures.read in
    (last, rw c.due-2.ensures (settled _ _ _ _ _ _ (rw told at read) c.read-2.result renewed again), is_last ∙ ap (λ s. with_seat s last) same)

pub loop-call-init : goal.loop-call-init
loop-call-init g c = record { renewed = none_renewed _; same = refl; on = stays_itself _ }

pub returns-in_default-clause-settled : goal.returns-in_default-clause-settled
returns-in_default-clause-settled g c =
    let (seat, read, is) = c.read.ensures.read in
    (seat, unread _ _ c.read.result read (sym c.due.ensures ∙ c.in_default.is), is)

pub returns-then-is_starved-clause-on : goal.returns-then-is_starved-clause-on
returns-then-is_starved-clause-on g c = stays_on _ _ _ c.read.ensures.on (stays_on _ _ _ c.loop-call.invariant.on c.change-renewed.ensures.on)

pub returns-clause-on : goal.returns-clause-on
returns-clause-on g c = stays_on _ _ _ c.read.ensures.on (stays_on _ _ _ c.loop-call.invariant.on c.read-2.ensures.on)
