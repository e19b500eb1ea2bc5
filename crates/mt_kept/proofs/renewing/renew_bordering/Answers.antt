use Rattle.std.proofs.Common.{◌+◌, map, List, subst, take}
use Rattle.std.proofs.lemmas.Bool.{le-leb, lt-leb}
use Rattle.std.proofs.lemmas.List.{take_all}
use Rattle.mt_base.proofs.Members.{take_push}
use Rattle.mt_kept.specs.declared.open_pair.OpenPair.{OpenPair}
use Rattle.mt_kept.specs.Places.{seen}
use Rattle.mt_base.specs.StrikeOut.{one_if}
use Rattle.mt_kept.specs.Private.Made.{straddles_on}
use Rattle.mt_kept.specs.Private.Window.{AreLookedAt}
use Rattle.mt_kept.specs.Window.{edge_of}
use Rattle.mt_kept.proofs.Looking.{renewed_more, renewed_past}
use Rattle.mt_kept.proofs.Marks.{stale_changed}
use Rattle.mt_kept.proofs.Moving.{tested_on, tested_past, tested_sparing}
use Rattle.mt_kept.proofs.renewing.renew_bordering.Goals as goal
use Rattle.mt_kept.proofs.renewing.renew_bordering.Goals.{then-now-pair+in_ok-push_pair, else-now-pair}

pub returns-in_err-push_pair-clause-counted : goal.returns-in_err-push_pair-clause-counted
returns-in_err-push_pair-clause-counted c =
    tested_sparing (straddles_on c.args.now) (map edge_of c.args.pairs.now) (c.loop-pair.pair-index + 1) (one_if c.shown_later-conflict.new.spare)
    c.args.tests.now c.shown_later-conflict.new.tests
    (tested_on c.args.now c.args.pairs.now c.loop-pair.pair-index c.pair-item.result c.loop-pair.spare c.shown_later-conflict.new.spare c.args.tests.now
    c.loop-pair.tests c.shown_later-conflict.new.tests c.loop-pair-test.true c.pair-item.is (le-leb _ _ c.if-now-pair.true) c.loop-pair.invariant.counted
    c.shown_later-conflict.ensures.counted)

pub loop-pair-preserved : goal.loop-pair-preserved
loop-pair-preserved c =
    let pairs = c.args.pairs.now in
    let i = c.loop-pair.pair-index in
    let o = c.pair-item.result in
    let places = map seen c.args.places.now in
    let below = c.loop-pair-test.true in
    let so_far = c.loop-pair.invariant in
    let more = take_push pairs i o below c.pair-item.is in
    elim c.if-now-pair.branch [
      | then-now-pair+in_ok-push_pair w ↦ rw (w.stale-is, w.tests-is, w.renewed-is, w.spare-is) (record {
        renewed = rw more (renewed_more c.args.rules.now places c.args.now (take i pairs) o w.shown_later-conflict.result c.loop-pair.stale w.mark_change.new.self
            c.reserve.new.self.items c.loop-pair.renewed.items w.push_pair.new.pairs.items so_far.renewed (le-leb _ _ w.if-now-pair.true)
            w.shown_later-conflict.ensures.shown w.mark_change.ensures w.in_ok-push_pair.ensures);
        stale = λ moment are. stale_changed moment c.args.now o.conflict w.shown_later-conflict.result c.loop-pair.stale w.mark_change.new.self
            (so_far.stale moment are) w.mark_change.ensures;
        counted = tested_on c.args.now pairs i o c.loop-pair.spare w.shown_later-conflict.new.spare c.args.tests.now c.loop-pair.tests
            w.shown_later-conflict.new.tests below c.pair-item.is (le-leb _ _ w.if-now-pair.true) so_far.counted w.shown_later-conflict.ensures.counted;
      })
      | else-now-pair w ↦ rw (w.stale-is, w.tests-is, w.renewed-is, w.spare-is) (record {
        renewed = rw more (renewed_past c.args.rules.now places c.args.now (take i pairs) o c.loop-pair.stale c.reserve.new.self.items
            c.loop-pair.renewed.items so_far.renewed (lt-leb _ _ w.if-now-pair.false));
        stale = so_far.stale;
        counted = tested_past c.args.now pairs i o (one_if c.loop-pair.spare) c.args.tests.now c.loop-pair.tests below c.pair-item.is
            (lt-leb _ _ w.if-now-pair.false) so_far.counted;
      })
    ]

pub returns-clause-renewed : goal.returns-clause-renewed
returns-clause-renewed c =
    rw (← c.in_ok-reserve.ensures.items) (subst (λ (pairs : List OpenPair). AreLookedAt c.args.rules.now (map seen c.args.places.now) c.args.now pairs c.loop-pair.stale
    c.reserve.new.self.items c.loop-pair.renewed.items) (take_all c.loop-pair.pair-index c.args.pairs.now c.loop-pair-test.false) c.loop-pair.invariant.renewed)

pub returns-clause-counted : goal.returns-clause-counted
returns-clause-counted c =
    tested_sparing (straddles_on c.args.now) (map edge_of c.args.pairs.now) c.loop-pair.pair-index (one_if c.loop-pair.spare) c.args.tests.now
    c.loop-pair.tests c.loop-pair.invariant.counted
