use Rattle.std.proofs.Common.{◌≡◌, ◌∙◌, ◌+◌, ◌++◌, ◌∷◌, [], ap, sym, subst, refl, take, true}
use Rattle.std.proofs.lemmas.List.{take_all, take_more}
use Rattle.std.proofs.lemmas.List.Elements.{All-push}
use Rattle.mt_base.specs.declared.hit.Hit.{Hit}
use Rattle.mt_base.specs.Name.{is_name}
use Rattle.mt_write.specs.Short.{IsShortHit}
use Rattle.mt_session.proofs.probing.short_hits.Goals as goal

pub hit_of-requires : goal.hit_of-requires
hit_of-requires c =
    subst (λ (h : Hit). is_name 1 7 h.with ≡ true) (sym c.hit-item.is) (c.requires.named c.loop-hit.hit-index c.hit-item.result c.loop-hit-test.true)

pub loop-hit-preserved : goal.loop-hit-preserved
loop-hit-preserved c =
    let hits = c.args.hits.now in
    let i = c.loop-hit.hit-index in
    let x = c.hit-item.result in
    let more : take (i + 1) hits ≡ take i hits ++ x ∷ [] = take_more hits i x c.loop-hit-test.true ∙ ap (λ y. take i hits ++ y ∷ []) (sym c.hit-item.is) in (
      rw (c.in_ok-push.ensures.ok, c.hit_of.ensures.is, more, c.loop-hit.invariant.0) refl,
      rw c.in_ok-push.ensures.ok (All-push IsShortHit c.loop-hit.copy c.hit_of.result c.loop-hit.invariant.1 c.hit_of.ensures.short),
    )

pub returns-clause-same : goal.returns-clause-same
returns-clause-same c = c.loop-hit.invariant.0 ∙ take_all c.loop-hit.hit-index c.args.hits.now c.loop-hit-test.false
