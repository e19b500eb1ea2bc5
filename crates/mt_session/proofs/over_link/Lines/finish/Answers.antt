use Rattle.std.proofs.Common.{sym, ◌∙◌}
use Rattle.mt_lines.proofs.Endings.{failed}
use Rattle.mt_lines.proofs.Streams.{untold}
use Rattle.mt_session.proofs.Stays.{stays_itself}
use Rattle.mt_session.proofs.Turning.{given_on}
use Rattle.mt_session.proofs.over_link.Lines.finish.Goals as goal

-- the session ends
pub returns-in-Some-clause-given : goal.returns-in-Some-clause-given
returns-in-Some-clause-given g c = record { given = c.give-given.result; gives = c.give-given.ensures.given; lost = c.give-given.ensures.lost; result_is = sym c.in-Some.is ∙ c.after.ensures }

pub returns-in-Some-clause-on : goal.returns-in-Some-clause-on
returns-in-Some-clause-on g c = stays_itself _

pub returns-in-Some-clause-output : goal.returns-in-Some-clause-output
returns-in-Some-clause-output g c = record {
  fault = record {
    cause = λ is. failed c.give-given.result _ _ c.give-given.ensures.cause.failed (sym c.after.ensures ∙ c.in-Some.is ∙ is);
    later = c.give-given.ensures.cause.later;
  };
  kept = c.give-given.ensures.kept;
}

-- and goes on
pub returns-clause-given : goal.returns-clause-given
returns-clause-given g c = record { given = c.give-given.result; gives = c.give-given.ensures.given; lost = c.give-given.ensures.lost; result_is = sym c.in_default.is ∙ c.after.ensures }

pub returns-clause-on : goal.returns-clause-on
returns-clause-on g c = c.follow.ensures.on

pub returns-clause-output : goal.returns-clause-output
returns-clause-output g c = record { fault = untold c.give-given.ensures.cause.later (λ is. cc); kept = c.give-given.ensures.kept }

pub returns-clause-written : goal.returns-clause-written
returns-clause-written g c = λ follows. given_on c.give-given.result _ (sym c.after.ensures ∙ c.in_default.is) c.give-given.ensures.written (c.is_some.ensures ∙ follows)
