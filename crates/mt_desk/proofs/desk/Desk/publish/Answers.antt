use Rattle.std.proofs.Common.{◌≡◌, ◌∙◌, ap, arith, subst}
use Rattle.std.proofs.lemmas.Grind.{common_steps}
use Rattle.mt_base.specs.Tables.{Setup}
use Rattle.mt_base.specs.declared.command.Entry.{Entry}
use Rattle.mt_turn.specs.declared.view.Phase.TheVariants.{Holds}
use Rattle.mt_turn.specs.declared.view.View.{View}
use Rattle.mt_turn.specs.Lending.{Left}
use Rattle.mt_desk.specs.Desk.{Desk}
use Rattle.mt_desk.proofs.Histories.{free_on, in_time_on}
use Rattle.mt_desk.proofs.Turning.{changes, grows, has_turn, same_turn, who_of}
use Rattle.mt_desk.proofs.desk.Desk.publish.Goals as goal

pub publish-result-requires-clause-free : goal.publish-result-requires-clause-free
publish-result-requires-clause-free g c =
    let same = c.enter-held.ensures.lent.same ∙ c.requires.ready.fixed_is in
    let fixed : c.enter-held.result.value.setup ≡ c.args.self.now.fixed = cc in
    let begins = c.enter-held.ensures.lent.begins in
    rw (c.value_mut.ensures.value, fixed) (free_on c.args.self.now.fixed c.args.seat.now.view.seen c.enter-held.result.value.history c.args.command.now
    (begins.0, begins.1) c.requires.in_time c.requires.free)

-- it was prepared for this seat
pub publish-result-requires-clause-prepared : goal.publish-result-requires-clause-prepared
publish-result-requires-clause-prepared g c = grind (arith, common_steps)

pub leave-requires-clause-holds : goal.leave-requires-clause-holds
leave-requires-clause-holds g c = has_turn c.args.seat.now.view c.enter-held.new.seat.view c.enter-held.result.lent.history c.enter-held.ensures.holds

pub leave-requires-clause-grows : goal.leave-requires-clause-grows
leave-requires-clause-grows g c =
    let was = c.value_mut.ensures.value ∙ c.enter-held.ensures.unchanged in
    rw (c.number-who.ensures, was) at (grows c.value_mut.result.now c.publish-result.new.self c.number-who.result c.args.command.now c.publish-result.result
    c.publish-result.ensures.entered c.publish-result.ensures.unchanged)

pub returns-clause-changed : goal.returns-clause-changed
returns-clause-changed g c =
    let (t, is) = c.enter-held.ensures.holds in
    let v = c.args.seat.now.view in
    let was = c.value_mut.ensures.value ∙ c.enter-held.ensures.unchanged in
    let who = c.number-who.ensures ∙ ap (λ (z : View Entry Setup). z.number) is in
    let same = c.enter-held.ensures.lent.same ∙ c.requires.ready.fixed_is in
    let fixed : c.enter-held.result.value.setup ≡ c.args.self.now.fixed = cc in
    let begins = c.enter-held.ensures.lent.begins in
    let left = subst (λ (z : View Entry Setup). Left who_of z c.enter-held.result.lent.history c.publish-result.new.self.history c.leave.new.seat.view) is c.leave.ensures.left in
    changes c.args.self.now.fixed v c.leave.new.seat.view (Holds t c.enter-held.result.lent.history) c.value_mut.result.now c.publish-result.new.self
    c.args.command.now c.publish-result.result (rw c.value_mut.ensures.value fixed) (rw c.value_mut.ensures.value (begins.0, begins.1))
    (rw who at c.publish-result.ensures.entered) (rw who at c.publish-result.ensures.refused) c.publish-result.ensures.unchanged (rw c.value.ensures at c.keeps.ensures)
    c.enter-held.ensures.lent.mine_seen (rw was left)

pub publish-result-requires-clause-in_time : goal.publish-result-requires-clause-in_time
publish-result-requires-clause-in_time g c =
    let begins = c.enter-held.ensures.lent.begins in
    rw c.value_mut.ensures.value (in_time_on c.args.seat.now.view.seen c.enter-held.result.value.history c.args.command.now (begins.0, begins.1) c.requires.in_time)

pub publish-result-requires-clause-bounded : goal.publish-result-requires-clause-bounded
publish-result-requires-clause-bounded g c = c.requires.bounded

pub returns-clause-ready : goal.returns-clause-ready
returns-clause-ready g c =
    let same = same_turn c.args.seat.now.view c.enter-held.new.seat.view c.leave.new.seat.view c.enter-held.result.lent.history c.enter-held.ensures.holds c.leave.ensures.left.same in
    record {
      home_is = c.leave.ensures.own ∙ ap (λ (d : Desk). d.home) c.self.view_is;
      idle = c.leave.ensures.idle;
      fixed_is = same.3 ∙ c.requires.ready.fixed_is;
    }

pub returns-clause-same : goal.returns-clause-same
returns-clause-same g c =
    same_turn c.args.seat.now.view c.enter-held.new.seat.view c.leave.new.seat.view c.enter-held.result.lent.history c.enter-held.ensures.holds c.leave.ensures.left.same
