use Rattle.std.proofs.Common.{◌≤◌, arith, inl, inr, refl}
use Rattle.std.proofs.lemmas.Result.{on_ok_weaker}
use Rattle.mt_track.specs.Named.{named}
use Rattle.mt_kept.proofs.Costs.{cost_both}
use Rattle.mt_kept.proofs.Hulls.{said_as, span_as}
use Rattle.mt_kept.proofs.finds.add_find.Goals as goal

pub shown_if_open-conflict-requires-clause-span : goal.shown_if_open-conflict-requires-clause-span
shown_if_open-conflict-requires-clause-span c =
    span_as c.args.rules.now (named c.args.item.now).path (named c.args.other.now).path c.whole-loss.result.span c.in-Some.span c.edge_between-edge.result
    c.in-Some.is c.edge_between-edge.ensures.is.1 c.edge_between-edge.ensures.is.2 c.whole-loss.ensures.is

pub shown_if_open-conflict-requires-clause-solid : goal.shown_if_open-conflict-requires-clause-solid
shown_if_open-conflict-requires-clause-solid c =
    said_as c.args.rules.now (named c.args.item.now).path (named c.args.other.now).path c.whole-loss.result.span c.whole-loss.result.solid c.in-Some.span
    c.edge_between-edge.result c.in-Some.is c.edge_between-edge.ensures.is.1 c.edge_between-edge.ensures.is.2 c.edge_between-edge.ensures.solid
    c.whole-loss.ensures.solid

pub returns-in_default-clause-added : goal.returns-in_default-clause-added
returns-in_default-clause-added c = inl (refl, λ k early. (rw c.in_default.is at c.whole-loss.ensures.is) k (let low : 0 ≤ k = omega arith in low) early)

pub returns-clause-added : goal.returns-clause-added
returns-clause-added c =
    let mine = (named c.args.item.now).path in
    let other = (named c.args.other.now).path in
    let edge = c.edge_between-edge in
    on_ok_weaker c.push_pair.result
    (λ is. inr (
      record { edge = edge.result; conflict = c.shown_if_open-conflict.result },
      record {
        ends = edge.ensures.is.0;
        span = span_as c.args.rules.now mine other c.whole-loss.result.span c.in-Some.span edge.result c.in-Some.is edge.ensures.is.1 edge.ensures.is.2
            c.whole-loss.ensures.is;
        solid = said_as c.args.rules.now mine other c.whole-loss.result.span c.whole-loss.result.solid c.in-Some.span edge.result c.in-Some.is
            edge.ensures.is.1 edge.ensures.is.2 edge.ensures.solid c.whole-loss.ensures.solid;
        shown = c.shown_if_open-conflict.ensures.found;
      },
      is,
    ))
    c.push_pair.ensures

pub returns-clause-counted : goal.returns-clause-counted
returns-clause-counted c =
    cost_both c.args.now c.args.candidate.knowledge c.in-Some.span c.edge_between-edge.result c.args.tests.now c.whole-loss.new.tests
    c.shown_if_open-conflict.new.tests c.edge_between-edge.ensures.is.1 c.edge_between-edge.ensures.is.2 (rw c.in-Some.is at c.whole-loss.ensures.same)
    c.whole-loss.ensures.counted c.shown_if_open-conflict.ensures.counted
