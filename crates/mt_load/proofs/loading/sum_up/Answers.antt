use Rattle.std.proofs.Common.{◌≡◌, ◌∙◌, sym, ap}
use Rattle.mt_base.specs.Tables.{Setup}
use Rattle.mt_world.specs.World.{World, setup_of}
use Rattle.mt_load.proofs.Counted.{summary_is}
use Rattle.mt_load.proofs.loading.sum_up.Goals as goal

pub again-requires-clause-tables : goal.again-requires-clause-tables
again-requires-clause-tables g c κs within =
    let same : c.picture-picture.result.now.setup ≡ setup_of c.args.script.now =
    c.picture-picture.ensures.setup ∙ ap (λ (w : World). setup_of w) c.in-Some.ensures in
    c.in_ok-tables.ensures ∙ sym (ap (λ (s : Setup). s.tables) same)

pub returns : goal.returns
returns g c =
    summary_is c.args.script.now c.picture-picture.result.now _
    (c.picture-picture.ensures.setup ∙ ap (λ (w : World). setup_of w) c.in-Some.ensures)
    (c.picture-picture.ensures.history ∙ ap (λ (w : World). w.history) c.in-Some.ensures)
    c.keeps.ensures.complete
    c.sizes_of-held.ensures.conflicts c.in_ok-again.ensures c.sizes_of-held.ensures.entries c.sizes_of-held.ensures.flights
