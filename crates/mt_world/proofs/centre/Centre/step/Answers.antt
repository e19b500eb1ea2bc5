use Rattle.std.proofs.Common.{⊎_elim, inl, inr, refl}
use Rattle.mt_world.proofs.WorldLemmas.{begun_or, begun_refused, on_true}
use Rattle.mt_world.proofs.centre.Centre.step.Goals as goal

pub returns-in-Fix-clause-served : goal.returns-in-Fix-clause-served
returns-in-Fix-clause-served g c = rw c.in-Fix.is (inl (begun_refused c.args.self.now _ c.keeps.ensures))

pub returns-in-TypeLine-clause-served : goal.returns-in-TypeLine-clause-served
returns-in-TypeLine-clause-served g c = rw c.in-TypeLine.is (inl (begun_refused c.args.self.now _ c.keeps.ensures))

pub returns-in-Rule-clause-served : goal.returns-in-Rule-clause-served
returns-in-Rule-clause-served g c = rw c.in-Rule.is (inl (begun_refused c.args.self.now _ c.keeps.ensures))

pub returns-in-Area-clause-served : goal.returns-in-Area-clause-served
returns-in-Area-clause-served g c = rw c.in-Area.is (inl (begun_refused c.args.self.now _ c.keeps.ensures))

pub returns-in-Begin-clause-served : goal.returns-in-Begin-clause-served
returns-in-Begin-clause-served g c = rw c.in-Begin.is (inl (begun_refused c.args.self.now _ c.keeps.ensures))

-- what is told of the picture
pub returns-in-Ask-clause-served : goal.returns-in-Ask-clause-served
returns-in-Ask-clause-served g c = rw c.in-Ask.is (c.tell.ensures.told c.args.who)

pub returns-in-Ask-clause-fit : goal.returns-in-Ask-clause-fit
returns-in-Ask-clause-fit g c = c.tell.ensures.fit

-- the others are answered by what answers them
pub returns-in-Change-clause-served : goal.returns-in-Change-clause-served
returns-in-Change-clause-served g c = rw c.in-Change.is (begun_or _ _ c.args.who _ _ _ _ c.keeps.ensures (λ same. same) c.change.ensures.answered)

pub returns-in-Change-clause-fit : goal.returns-in-Change-clause-fit
returns-in-Change-clause-fit g c = c.change.ensures.fit

pub returns-in-Take-clause-served : goal.returns-in-Take-clause-served
returns-in-Take-clause-served g c = rw c.in-Take.is (begun_or _ _ c.args.who _ _ _ _ c.keeps.ensures (λ same. same) c.take.ensures.answered)

pub returns-in-Take-clause-fit : goal.returns-in-Take-clause-fit
returns-in-Take-clause-fit g c = c.take.ensures.fit

pub returns-in-Probe-clause-served : goal.returns-in-Probe-clause-served
returns-in-Probe-clause-served g c = rw c.in-Probe.is (begun_or _ _ c.args.who _ _ _ _ c.keeps.ensures (λ same. same) c.probe.ensures.answered)

pub returns-in-Probe-clause-fit : goal.returns-in-Probe-clause-fit
returns-in-Probe-clause-fit g c = c.probe.ensures.fit

pub returns-in-Accept-clause-served : goal.returns-in-Accept-clause-served
returns-in-Accept-clause-served g c = rw c.in-Accept.is (begun_or _ _ c.args.who _ _ _ _ c.keeps.ensures (λ same. same) c.accept.ensures.answered)

pub returns-in-Accept-clause-fit : goal.returns-in-Accept-clause-fit
returns-in-Accept-clause-fit g c = c.accept.ensures.fit

pub returns-in-Advise-clause-served : goal.returns-in-Advise-clause-served
returns-in-Advise-clause-served g c = rw c.in-Advise.is (begun_or _ _ c.args.who _ _ _ _ c.keeps.ensures (λ same. same) c.advise.ensures.answered)

pub returns-in-Advise-clause-fit : goal.returns-in-Advise-clause-fit
returns-in-Advise-clause-fit g c = c.advise.ensures.fit

pub returns-in-Areas-clause-served : goal.returns-in-Areas-clause-served
returns-in-Areas-clause-served g c = rw c.in-Areas.is (begun_or _ _ c.args.who _ _ _ _ c.keeps.ensures (λ same. same) c.pass.ensures.told)

pub returns-in-Areas-clause-fit : goal.returns-in-Areas-clause-fit
returns-in-Areas-clause-fit g c = c.pass.ensures.fit

pub returns-in-Settle-clause-served : goal.returns-in-Settle-clause-served
returns-in-Settle-clause-served g c = rw c.in-Settle.is (⊎_elim (λ settled. inl (on_true c.args.self.now.begun _ _ c.keeps.ensures settled)) inr c.settle.ensures.answered)

pub returns-in-Settle-clause-fit : goal.returns-in-Settle-clause-fit
returns-in-Settle-clause-fit g c = c.settle.ensures.fit

-- the tests of each
pub returns-in-Fix-clause-tested : goal.returns-in-Fix-clause-tested
returns-in-Fix-clause-tested g c = rw c.in-Fix.is refl

pub returns-in-TypeLine-clause-tested : goal.returns-in-TypeLine-clause-tested
returns-in-TypeLine-clause-tested g c = rw c.in-TypeLine.is refl

pub returns-in-Rule-clause-tested : goal.returns-in-Rule-clause-tested
returns-in-Rule-clause-tested g c = rw c.in-Rule.is refl

pub returns-in-Area-clause-tested : goal.returns-in-Area-clause-tested
returns-in-Area-clause-tested g c = rw c.in-Area.is refl

pub returns-in-Begin-clause-tested : goal.returns-in-Begin-clause-tested
returns-in-Begin-clause-tested g c = rw c.in-Begin.is refl

pub returns-in-Hello-clause-tested : goal.returns-in-Hello-clause-tested
returns-in-Hello-clause-tested g c = rw c.in-Hello.is refl

pub returns-in-Bye-clause-tested : goal.returns-in-Bye-clause-tested
returns-in-Bye-clause-tested g c = rw c.in-Bye.is refl

pub returns-in-Ask-clause-tested : goal.returns-in-Ask-clause-tested
returns-in-Ask-clause-tested g c = rw c.in-Ask.is refl

pub returns-in-Take-clause-tested : goal.returns-in-Take-clause-tested
returns-in-Take-clause-tested g c = rw c.in-Take.is refl

pub returns-in-Advise-clause-tested : goal.returns-in-Advise-clause-tested
returns-in-Advise-clause-tested g c = rw c.in-Advise.is refl

pub returns-in-Areas-clause-tested : goal.returns-in-Areas-clause-tested
returns-in-Areas-clause-tested g c = rw c.in-Areas.is refl

pub returns-in-Change-clause-tested : goal.returns-in-Change-clause-tested
returns-in-Change-clause-tested g c = rw c.in-Change.is c.change.ensures.tested

pub returns-in-Probe-clause-tested : goal.returns-in-Probe-clause-tested
returns-in-Probe-clause-tested g c = rw c.in-Probe.is (c.probe.ensures.tested, c.probe.ensures.enough)

pub returns-in-Accept-clause-tested : goal.returns-in-Accept-clause-tested
returns-in-Accept-clause-tested g c = rw c.in-Accept.is c.accept.ensures.tested

pub returns-in-Settle-clause-tested : goal.returns-in-Settle-clause-tested
returns-in-Settle-clause-tested g c = rw c.in-Settle.is c.settle.ensures.tested
