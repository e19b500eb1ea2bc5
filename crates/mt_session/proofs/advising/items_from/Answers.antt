use Rattle.std.proofs.Common.{◌≡◌, ◌∙◌, ◌+◌, ◌++◌, ◌∷◌, [], ap, map, sym, refl, take, All}
use Rattle.std.proofs.lemmas.List.{map-append, take_more}
use Rattle.std.proofs.lemmas.List.Elements.{All-push}
use Rattle.mt_write.specs.Short.{IsShortAdvised}
use Rattle.mt_session.proofs.Advice.{item_more, number_more}
use Rattle.mt_session.proofs.advising.items_from.Goals as goal

pub loop-probe-preserved : goal.loop-probe-preserved
loop-probe-preserved g c =
    let told = g.P.Probed.told in
    let ps = c.args.probes.now in
    let i = c.loop-probe.probe-index in
    let x = c.probe-item.result in
    let more : map told (take (i + 1) ps) ≡ map told (take i ps) ++ told x ∷ [] =
    ap (map told) (take_more ps i x c.loop-probe-test.true ∙ ap (λ y. take i ps ++ y ∷ []) (sym c.probe-item.is)) ∙ map-append told (take i ps) (x ∷ []) in
    let short : All IsShortAdvised (c.loop-probe.items ++ c.of.result ∷ []) =
    All-push IsShortAdvised c.loop-probe.items c.of.result c.loop-probe.invariant.2 c.of.ensures.short in (
      rw (
        more,
        item_more c.args.count (map told (take i ps)) (told x),
        c.in_ok-push.ensures.ok,
        c.of.ensures.is,
        c.clearance.ensures,
        c.saturating_add-number.ensures,
        c.loop-probe.invariant.0,
        c.loop-probe.invariant.1,
      ) refl,
      rw (more, number_more c.args.count (map told (take i ps)) (told x), c.saturating_add-number.ensures, c.loop-probe.invariant.1) refl,
      rw c.in_ok-push.ensures.ok short,
    )
