use Rattle.std.proofs.Common.{◌≡◌, inl, refl, arith, of_z, to_z, to_z-of_z, w64}
use Rattle.mt_read.specs.declared.request.Request.TheVariants.{Fix, TypeLine}
use Rattle.mt_world.proofs.Adding.{before_or, on_false}
use Rattle.mt_world.proofs.setting.Setting.serve.Goals as goal

pub returns-in-Fix-clause-served : goal.returns-in-Fix-clause-served
returns-in-Fix-clause-served c = λ who.
    let x : to_z w64 (of_z w64 c.in-Fix.x) ≡ c.in-Fix.x = grind (arith, to_z-of_z) in
    let y : to_z w64 (of_z w64 c.in-Fix.y) ≡ c.in-Fix.y = grind (arith, to_z-of_z) in
    rw c.in-Fix.is (before_or c.args.self.now c.add_fix.new.self who (Fix c.in-Fix.name c.in-Fix.x c.in-Fix.y) c.add_fix.result _ _ c.keeps.ensures.before
    (λ same. same) (rw (x, y) at c.add_fix.ensures.answered))

pub returns-in-TypeLine-clause-served : goal.returns-in-TypeLine-clause-served
returns-in-TypeLine-clause-served c = λ who. rw c.in-TypeLine.is (before_or c.args.self.now c.add_type.new.self who (TypeLine c.in-TypeLine.name c.in-TypeLine.bands) c.add_type.result _ _ c.keeps.ensures.before (λ same. same)
    c.add_type.ensures.answered)

pub returns-in-Rule-clause-served : goal.returns-in-Rule-clause-served
returns-in-Rule-clause-served c = λ who. rw c.in-Rule.is (inl (on_false _ _ _ c.keeps.ensures.before c.set_rules.ensures.answered))

pub returns-in-Ask-clause-served : goal.returns-in-Ask-clause-served
returns-in-Ask-clause-served c = λ who. rw c.in-Ask.is (inl (on_false _ _ _ c.keeps.ensures.before (record { reply_is = refl; same = refl })))

pub returns-in-Change-clause-served : goal.returns-in-Change-clause-served
returns-in-Change-clause-served c = λ who. rw c.in-Change.is (inl (on_false _ _ _ c.keeps.ensures.before (record { reply_is = refl; same = refl })))

pub returns-in-Take-clause-served : goal.returns-in-Take-clause-served
returns-in-Take-clause-served c = λ who. rw c.in-Take.is (inl (on_false _ _ _ c.keeps.ensures.before (record { reply_is = refl; same = refl })))

pub returns-in-Probe-clause-served : goal.returns-in-Probe-clause-served
returns-in-Probe-clause-served c = λ who. rw c.in-Probe.is (inl (on_false _ _ _ c.keeps.ensures.before (record { reply_is = refl; same = refl })))

pub returns-in-Accept-clause-served : goal.returns-in-Accept-clause-served
returns-in-Accept-clause-served c = λ who. rw c.in-Accept.is (inl (on_false _ _ _ c.keeps.ensures.before (record { reply_is = refl; same = refl })))

pub returns-in-Advise-clause-served : goal.returns-in-Advise-clause-served
returns-in-Advise-clause-served c = λ who. rw c.in-Advise.is (inl (on_false _ _ _ c.keeps.ensures.before (record { reply_is = refl; same = refl })))

pub returns-in-Settle-clause-served : goal.returns-in-Settle-clause-served
returns-in-Settle-clause-served c = λ who. rw c.in-Settle.is (inl (on_false _ _ _ c.keeps.ensures.before (record { reply_is = refl; same = refl })))

pub returns-in-Areas-clause-served : goal.returns-in-Areas-clause-served
returns-in-Areas-clause-served c = λ who. rw c.in-Areas.is (inl (on_false _ _ _ c.keeps.ensures.before (record { reply_is = refl; same = refl })))

pub returns-in-Area-clause-served : goal.returns-in-Area-clause-served
returns-in-Area-clause-served c = λ who. rw c.in-Area.is (c.add_area.ensures.served who)
