use Rattle.std.proofs.Common.{◌≡◌, ◌∙◌, ◌++◌, ◌∷◌, [], List, Ok, Err, ap, refl, subst}
use Rattle.std.specs.Arc.{arc_value}
use Rattle.mt_area.specs.Adding.{IsAnswer}
use Rattle.mt_base.specs.declared.area.Area.{Area}
use Rattle.mt_world.specs.World.{World, world_set_up}
use Rattle.mt_world.proofs.AddingAreas.{area_done, area_refused}
use Rattle.mt_world.proofs.setting.Setting.add_area.Goals as goal

pub returns-in-Err-clause-served : goal.returns-in-Err-clause-served
returns-in-Err-clause-served c = λ who.
    let seen : List Area → World = world_set_up c.self.inside.rules (arc_value c.self.inside.tables) in
    let areas : List Area = c.self.inside.areas in
    let answer : IsAnswer areas c.args.area.now (Err c.in-Err.refusal) =
    subst (λ (a : Area). IsAnswer areas a (Err c.in-Err.refusal)) c.in-Ok.ensures c.in-Err.ensures.answer in
    rw (← c.self.view_is, c.area_not_added.ensures.answer) (area_refused (seen areas) (seen c.add.new.self) who c.args.area.now c.in-Err.refusal refl answer
    (ap seen c.in-Err.ensures.err))

pub returns-clause-served : goal.returns-clause-served
returns-clause-served c = λ who.
    let seen : List Area → World = world_set_up c.self.inside.rules (arc_value c.self.inside.tables) in
    let areas : List Area = c.self.inside.areas in
    let answer : IsAnswer areas c.args.area.now (Ok (tt {0})) =
    subst (λ (a : Area). IsAnswer areas a (Ok (tt {0}))) c.in-Ok.ensures c.in_default-add.ensures.answer in
    let longer : c.add.new.self ≡ areas ++ c.args.area.now ∷ [] =
    c.in_default-add.ensures.ok ∙ ap (λ (a : Area). areas ++ a ∷ []) c.in-Ok.ensures in
    rw (← c.self.view_is) (area_done (seen areas) (seen c.add.new.self) who c.args.area.now refl answer (ap seen longer))
