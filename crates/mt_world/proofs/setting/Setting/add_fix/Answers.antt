use Rattle.std.proofs.Common.{◌∙◌, ap, inl, to_z-of_z}
use Rattle.mt_base.specs.Checks.{judged}
use Rattle.mt_base.specs.Tables.{Tables}
use Rattle.mt_tables.specs.Adding.{fix_adding, with_fix}
use Rattle.mt_write.specs.declared.reply.DoneWord.TheVariants.{Fix}
use Rattle.mt_write.specs.declared.reply.Reply.TheVariants.{TakenFix}
use Rattle.mt_world.specs.World.{world_set_up}
use Rattle.mt_world.proofs.Adding.{is_added}
use Rattle.mt_world.proofs.setting.Setting.add_fix.Goals as goal

pub returns-clause-answered : goal.returns-clause-answered
returns-clause-answered c =
    inl (is_added c.args.self.now _ (judged (fix_adding c.args.self.now.tables c.args.name) (tt {0})) Fix (TakenFix c.args.name)
    (with_fix c.args.self.now.tables c.args.name (record { x = c.args.x; y = c.args.y }))
    (rw (← c.self.view_is, ← c.in-Some.ensures.value) c.in_default-add_fix.ensures.answer)
    (rw (← c.self.view_is) (ap (λ (t : Tables). world_set_up c.self.inside.rules t c.self.inside.areas)
    (c.in_default-add_fix.ensures.ok
    ∙ (λ i. with_fix (c.in-Some.ensures.value i) c.args.name (record { x = to_z-of_z c.ranges.x i; y = to_z-of_z c.ranges.y i }))))))
