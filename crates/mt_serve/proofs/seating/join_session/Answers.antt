use Rattle.std.proofs.Common.{rules}
use Rattle.mt_serve.proofs.seating.join_session.Goals as goal

pub join-requires-clause-ready : goal.join-requires-clause-ready
join-requires-clause-ready g c = (c.requires.ready, c.requires.other)

-- the door has the link back
pub returns-clause-door : goal.returns-clause-door
returns-clause-door g c = record {
  count = cc;
  still = search rules;
  returned = search rules;
  faults = search rules;
}

pub returns-clause-joins : goal.returns-clause-joins
returns-clause-joins g c = c.join.ensures.joins

pub returns-clause-counted : goal.returns-clause-counted
returns-clause-counted g c = c.add.ensures

pub add-requires-clause-room : goal.add-requires-clause-room
add-requires-clause-room g c = c.requires.room

pub back-requires : goal.back-requires
back-requires g c = c.requires.given

pub add-requires-clause-parts : goal.add-requires-clause-parts
add-requires-clause-parts g c = c.requires.parts

pub join-requires-clause-first : goal.join-requires-clause-first
join-requires-clause-first g c = c.requires.first

pub returns-clause-ready : goal.returns-clause-ready
returns-clause-ready g c = c.join.ensures.ready
