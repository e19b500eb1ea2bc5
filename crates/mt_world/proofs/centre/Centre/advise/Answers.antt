use Rattle.std.proofs.Common.{◌<◌, ◌∙◌, ap, inl, length, sym, arith}
use Rattle.mt_world.specs.Private.Sound.{clearances_of}
use Rattle.mt_world.specs.World as world
use Rattle.mt_world.proofs.Advice.{items_length, tried_length}
use Rattle.mt_world.proofs.Taking.{advised_is, unadvised_is}
use Rattle.mt_world.proofs.WorldLemmas.{actor_is}
use Rattle.mt_world.proofs.centre.Centre.advise.Goals as goal

pub returns-in-Ok-items_from-clause-answered : goal.returns-in-Ok-items_from-clause-answered
returns-in-Ok-items_from-clause-answered g c =
    let items = c.self.inside.actors.items in
    let within : c.args.who < length items = rw c.self.invariant.sixteen (omega (arith, c.requires)) in
    let counted = c.count-count.ensures ∙ ap (λ (b : world.Actor). b.book.count) (sym (actor_is items c.args.who c.index.result.now within c.index.ensures)) in
    inl (advised_is c.args.self.now c.keep_all.new.self c.args.who c.args.call
    c.in-Ok.field-0.eff c.in-Ok.field-0.version c.count-count.result c.in-Ok.field-0.probes.items c.in-Ok-items_from.advice c.in-Ok.ensures.advised
    (rw (← c.self.view_is) counted) (rw c.deref.ensures.value at c.in-Ok-items_from.ensures.exact) c.keep_all.ensures)

pub returns-in-Ok-items_from-clause-fit : goal.returns-in-Ok-items_from-clause-fit
returns-in-Ok-items_from-clause-fit g c = record {
  few = rw (c.in-Ok-items_from.ensures.exact, c.deref.ensures.value, items_length c.count-count.result (clearances_of c.in-Ok.field-0.probes.items), tried_length c.in-Ok.field-0.probes.items)
      c.in-Ok.ensures.advised.few;
  each = c.in-Ok-items_from.ensures.short;
  call_is = c.keeps.ensures;
}

pub returns-in-Err-clause-answered : goal.returns-in-Err-clause-answered
returns-in-Err-clause-answered g c =
    rw c.refused.ensures.reply (unadvised_is c.args.self.now c.args.who c.args.call c.in-Err.no c.in-Err.ensures.refused)
