use Rattle.std.proofs.Common.{inl, refl}
use Rattle.mt_session.proofs.Stays.{stays_itself}
use Rattle.mt_session.proofs.serving.Serving.reply_to.Goals as goal

-- a role is taken, and nothing else changes
pub returns-in-Hello-clause-served : goal.returns-in-Hello-clause-served
returns-in-Hello-clause-served g c = rw c.in-Hello.is (inl (record { reply_is = c.hello.ensures.replied; next_is = c.hello.ensures.taken }))

pub returns-in-Hello-clause-on : goal.returns-in-Hello-clause-on
returns-in-Hello-clause-on g c = c.hello.ensures.on

pub returns-in-Bye-clause-served : goal.returns-in-Bye-clause-served
returns-in-Bye-clause-served g c = rw c.in-Bye.is (inl (record { reply_is = refl; next_is = refl }))

pub returns-in-Probe-clause-served : goal.returns-in-Probe-clause-served
returns-in-Probe-clause-served g c = rw c.in-Probe.is c.probe.ensures.probed

pub returns-in-Accept-clause-served : goal.returns-in-Accept-clause-served
returns-in-Accept-clause-served g c = rw c.in-Accept.is c.accept.ensures.accepted

pub returns-in-Advise-clause-served : goal.returns-in-Advise-clause-served
returns-in-Advise-clause-served g c = rw c.in-Advise.is c.advise.ensures.advised

pub returns-in-Settle-clause-served : goal.returns-in-Settle-clause-served
returns-in-Settle-clause-served g c = rw c.in-Settle.is c.settle.ensures.settled

pub returns-in-Ask-clause-served : goal.returns-in-Ask-clause-served
returns-in-Ask-clause-served g c = rw c.in-Ask.is (inl c.tell.ensures.told)

pub returns-in-Probe-clause-on : goal.returns-in-Probe-clause-on
returns-in-Probe-clause-on g c = c.probe.ensures.on

pub returns-in-Probe-clause-fit : goal.returns-in-Probe-clause-fit
returns-in-Probe-clause-fit g c = c.probe.ensures.fit

pub returns-in-Accept-clause-on : goal.returns-in-Accept-clause-on
returns-in-Accept-clause-on g c = c.accept.ensures.on

pub returns-in-Accept-clause-fit : goal.returns-in-Accept-clause-fit
returns-in-Accept-clause-fit g c = c.accept.ensures.fit

pub returns-in-Advise-clause-on : goal.returns-in-Advise-clause-on
returns-in-Advise-clause-on g c = c.advise.ensures.on

pub returns-in-Advise-clause-fit : goal.returns-in-Advise-clause-fit
returns-in-Advise-clause-fit g c = c.advise.ensures.fit

pub returns-in-Settle-clause-on : goal.returns-in-Settle-clause-on
returns-in-Settle-clause-on g c = c.settle.ensures.on

pub returns-in-Settle-clause-fit : goal.returns-in-Settle-clause-fit
returns-in-Settle-clause-fit g c = c.settle.ensures.fit

pub returns-in-Ask-clause-on : goal.returns-in-Ask-clause-on
returns-in-Ask-clause-on g c = c.tell.ensures.on

pub returns-in-Ask-clause-fit : goal.returns-in-Ask-clause-fit
returns-in-Ask-clause-fit g c = c.tell.ensures.fit

pub returns-in-Bye-clause-on : goal.returns-in-Bye-clause-on
returns-in-Bye-clause-on g c = stays_itself _

pub returns-in_default-clause-on : goal.returns-in_default-clause-on
returns-in_default-clause-on g c = stays_itself _

pub returns-in_default-clause-fit : goal.returns-in_default-clause-fit
returns-in_default-clause-fit g c = c.foreign.ensures.fit
