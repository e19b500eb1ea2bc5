use Rattle.std.proofs.Common.{subst, sym}
use Rattle.std.specs.Arc.{arc_value}
use Rattle.mt_base.specs.declared.rules.Rules.{Rules}
use Rattle.mt_meet.specs.Meeting.{IsNextMet}
use Rattle.mt_meet.specs.Searching.{IsSearched}
use Rattle.mt_probe.specs.Private.Boxed.{HoldsSlices}
use Rattle.mt_probe.specs.Shot.{Shot}
use Rattle.mt_probe.specs.declared.snapshot.Body.{Body}
use Rattle.mt_probe.proofs.Boxes.{from_table, next_met, to_table}
use Rattle.mt_probe.proofs.snapshot.Snapshot.next_meeting.Goals as goal

pub next_meeting-requires : goal.next_meeting-requires
next_meeting-requires c =
    let shot = c.args.self.now in
    let table = (arc_value c.self.inside.body).table in
    let holds = subst (λ (s : Shot). HoldsSlices s.setup.rules s.slots table) c.self.view_is c.self.invariant.holds in
    subst (λ (b : Body). IsSearched c.args.mine.now b.table c.args.search.now) (sym c.deref.ensures)
    (to_table shot c.args.mine.now.sliced c.args.mine.now.rules c.requires.rules table holds c.args.search.now c.requires.searched)

pub returns-clause-next : goal.returns-clause-next
returns-clause-next c =
    let shot = c.args.self.now in
    let table = (arc_value c.self.inside.body).table in
    let holds = subst (λ (s : Shot). HoldsSlices s.setup.rules s.slots table) c.self.view_is c.self.invariant.holds in
    next_met shot c.args.mine.now.sliced table c.args.search.now.from c.next_meeting.result holds
    (subst (λ (rules : Rules). IsNextMet rules c.args.mine.now.sliced table c.args.search.now.from c.next_meeting.result) c.requires.rules
    (subst (λ (b : Body). IsNextMet c.args.mine.now.rules c.args.mine.now.sliced b.table c.args.search.now.from c.next_meeting.result) c.deref.ensures
    c.next_meeting.ensures.next))

pub returns-clause-searched : goal.returns-clause-searched
returns-clause-searched c =
    let shot = c.args.self.now in
    let table = (arc_value c.self.inside.body).table in
    let holds = subst (λ (s : Shot). HoldsSlices s.setup.rules s.slots table) c.self.view_is c.self.invariant.holds in
    from_table shot c.args.mine.now.sliced c.args.mine.now.rules c.requires.rules table holds c.next_meeting.new.search
    (subst (λ (b : Body). IsSearched c.args.mine.now b.table c.next_meeting.new.search) c.deref.ensures c.next_meeting.ensures.searched)
