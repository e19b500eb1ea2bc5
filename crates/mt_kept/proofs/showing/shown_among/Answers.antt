use Rattle.std.proofs.Common.{ap, subst}
use Rattle.std.specs.List.{All}
use Rattle.std.proofs.lemmas.List.{take_all}
use Rattle.std.proofs.lemmas.List.Elements.{All-contains}
use Rattle.mt_base.proofs.Members.{Contains-map_cases}
use Rattle.mt_edges.specs.declared.edge.Edge.{Edge}
use Rattle.mt_edges.specs.Pairs.{HaveSameEnds}
use Rattle.mt_kept.specs.declared.open_pair.OpenPair.{OpenPair}
use Rattle.mt_kept.specs.Window.{edge_of}
use Rattle.mt_kept.proofs.showing.shown_among.Goals as goal

pub returns : goal.returns
returns c = λ held.
    let x = Contains-map_cases edge_of c.args.pairs.now c.args.edge.now held in
    let none : All (λ (o : OpenPair). ¬ HaveSameEnds o.edge c.args.edge.now) c.args.pairs.now =
    subst (All (λ (o : OpenPair). ¬ HaveSameEnds o.edge c.args.edge.now)) (take_all c.loop-pair.pair-index c.args.pairs.now c.loop-pair-test.false) c.loop-pair.invariant in
    absurd (All-contains (λ (o : OpenPair). ¬ HaveSameEnds o.edge c.args.edge.now) c.args.pairs.now x.of none x.held
    (ap (λ (e : Edge). e.a) x.is, ap (λ (e : Edge). e.b) x.is))
