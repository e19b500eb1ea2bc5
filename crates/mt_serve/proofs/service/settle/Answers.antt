use Rattle.std.proofs.Common.{◌∙◌, subst}
use Rattle.mt_base.specs.History.{IsLegal}
use Rattle.mt_base.specs.Tables.{Setup}
use Rattle.mt_serve.proofs.Binding.{ready_runs, ready_rest, ready_works, ready_hands, are_joined, all_joined, tied}
use Rattle.mt_serve.proofs.service.settle.Goals as goal

pub join_sessions-counts-requires-clause-others : goal.join_sessions-counts-requires-clause-others
join_sessions-counts-requires-clause-others g c κs within = ready_runs c.args.desk c.args.first.view c.args.left.dones.items c.args.left.seats.items c.args.left.resteds.items c.args.left.hands.items c.requires.split

pub join_seats-requires-clause-others : goal.join_seats-requires-clause-others
join_seats-requires-clause-others g c = ready_rest c.args.desk c.args.first.view c.args.left.dones.items c.args.left.seats.items c.args.left.resteds.items c.args.left.hands.items c.requires.split

pub join_workers-requires-clause-others : goal.join_workers-requires-clause-others
join_workers-requires-clause-others g c = ready_works c.args.desk c.args.first.view c.args.left.dones.items c.args.left.seats.items c.args.left.resteds.items c.args.left.hands.items c.requires.split

pub join_seats-requires-2-clause-others : goal.join_seats-requires-2-clause-others
join_seats-requires-2-clause-others g c = ready_hands c.args.desk c.args.first.view c.args.left.dones.items c.args.left.seats.items c.args.left.resteds.items c.args.left.hands.items c.requires.split

pub close-picture-requires-clause-joined : goal.close-picture-requires-clause-joined
close-picture-requires-clause-joined g c =
    all_joined g.D.Link.Source g.D.Link.Sink c.args.desk c.args.first.view c.join_seats-2.new.first.view c.args.left.dones.items c.args.left.seats.items c.args.left.resteds.items c.args.left.hands.items
    (are_joined g.D.Link.Source g.D.Link.Sink c.args.desk c.args.first.view c.join_sessions-counts.new.first.view c.join_seats.new.first.view c.join_workers.new.first.view c.join_seats-2.new.first.view c.args.left.dones.items c.args.left.seats.items c.args.left.resteds.items c.args.left.hands.items
    c.requires.split c.join_sessions-counts.ensures.joined c.join_seats.ensures.joined c.join_workers.ensures.joined c.join_seats-2.ensures.joined c.join_sessions-counts.ensures.served c.join_workers.ensures.worked)

pub returns-clause-tied : goal.returns-clause-tied
returns-clause-tied g c =
    tied g.D.Link.Source g.D.Link.Sink c.args.desk c.args.first.view c.join_seats-2.new.first.view c.args.left.dones.items c.args.left.seats.items c.args.left.resteds.items c.args.left.hands.items
    (are_joined g.D.Link.Source g.D.Link.Sink c.args.desk c.args.first.view c.join_sessions-counts.new.first.view c.join_seats.new.first.view c.join_workers.new.first.view c.join_seats-2.new.first.view c.args.left.dones.items c.args.left.seats.items c.args.left.resteds.items c.args.left.hands.items
    c.requires.split c.join_sessions-counts.ensures.joined c.join_seats.ensures.joined c.join_workers.ensures.joined c.join_seats-2.ensures.joined c.join_sessions-counts.ensures.served c.join_workers.ensures.worked)
    c.close-picture.result.history c.close-picture.ensures.history

pub join_sessions-counts-requires-clause-first : goal.join_sessions-counts-requires-clause-first
join_sessions-counts-requires-clause-first g c κs within = c.requires.split.number

pub join_seats-requires-clause-first : goal.join_seats-requires-clause-first
join_seats-requires-clause-first g c = c.join_sessions-counts.ensures.joined.number ∙ c.requires.split.number

pub join_workers-requires-clause-first : goal.join_workers-requires-clause-first
join_workers-requires-clause-first g c = c.join_seats.ensures.joined.number ∙ c.join_sessions-counts.ensures.joined.number ∙ c.requires.split.number

pub join_seats-requires-2-clause-first : goal.join_seats-requires-2-clause-first
join_seats-requires-2-clause-first g c =
    c.join_workers.ensures.joined.number ∙ c.join_seats.ensures.joined.number ∙ c.join_sessions-counts.ensures.joined.number ∙ c.requires.split.number

pub close-picture-requires-clause-first : goal.close-picture-requires-clause-first
close-picture-requires-clause-first g c =
    c.join_seats-2.ensures.joined.number ∙ c.join_workers.ensures.joined.number ∙ c.join_seats.ensures.joined.number ∙ c.join_sessions-counts.ensures.joined.number
    ∙ c.requires.split.number

pub close-picture-requires-clause-ready : goal.close-picture-requires-clause-ready
close-picture-requires-clause-ready g c = c.join_seats-2.ensures.ready

pub returns-clause-setup : goal.returns-clause-setup
returns-clause-setup g c = c.close-picture.ensures.fixed

pub returns-clause-legal : goal.returns-clause-legal
returns-clause-legal g c = subst (λ (s : Setup). IsLegal s c.close-picture.result.history) c.close-picture.ensures.fixed c.close-picture.ensures.legal

pub returns-clause-counted : goal.returns-clause-counted
returns-clause-counted g c = c.join_sessions-counts.ensures.counted

pub returns-clause-door : goal.returns-clause-door
returns-clause-door g c = c.join_sessions-counts.ensures.door

pub returns-clause-worked : goal.returns-clause-worked
returns-clause-worked g c = c.join_workers.ensures.worked
