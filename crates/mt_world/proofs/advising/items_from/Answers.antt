use Rattle.std.proofs.Common.{◌≡◌, ◌∙◌, ◌+◌, ◌++◌, ◌∷◌, [], ap, sym, refl, take, All}
use Rattle.std.proofs.lemmas.List.{map-append, take_more}
use Rattle.std.proofs.lemmas.List.Elements.{All-push}
use Rattle.mt_write.specs.Short.{IsShortAdvised}
use Rattle.mt_probe.specs.Hits.{Trial}
use Rattle.mt_world.specs.Private.Sound.{clearances_of}
use Rattle.mt_world.proofs.Advice.{item_more, number_more}
use Rattle.mt_world.proofs.advising.items_from.Goals as goal

pub loop-probe-preserved : goal.loop-probe-preserved
loop-probe-preserved c =
    let ps = c.args.probes.now in
    let i = c.loop-probe.probe-index in
    let x = c.probe-item.result in
    let more : clearances_of (take (i + 1) ps) ≡ clearances_of (take i ps) ++ x.clearance ∷ [] =
    ap clearances_of (take_more ps i x c.loop-probe-test.true ∙ ap (λ (y : Trial). take i ps ++ y ∷ []) (sym c.probe-item.is))
    ∙ map-append (λ (p : Trial). p.clearance) (take i ps) (x ∷ []) in
    let short : All IsShortAdvised (c.loop-probe.items ++ c.of.result ∷ []) =
    All-push IsShortAdvised c.loop-probe.items c.of.result c.loop-probe.invariant.2 c.of.ensures.short in (
      rw (
        more,
        item_more c.args.count (clearances_of (take i ps)) x.clearance,
        c.in_ok-push.ensures.ok,
        c.of.ensures.is,
        c.clearance.ensures,
        c.saturating_add-number.ensures,
        c.loop-probe.invariant.0,
        c.loop-probe.invariant.1,
      ) refl,
      rw (more, number_more c.args.count (clearances_of (take i ps)) x.clearance, c.saturating_add-number.ensures, c.loop-probe.invariant.1) refl,
      rw c.in_ok-push.ensures.ok short,
    )
