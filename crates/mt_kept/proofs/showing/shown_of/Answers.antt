use Rattle.std.proofs.Common.{sym, ◌∙◌, take, subst, List, Contains, ◌↔◌}
use Rattle.std.specs.List.{filter}
use Rattle.std.proofs.lemmas.List.{append-nil, take_all}
use Rattle.std.proofs.lemmas.List.Elements.{filter-append}
use Rattle.mt_base.specs.declared.conflict.Conflict.{Conflict}
use Rattle.mt_kept.specs.declared.open_pair.OpenPair.{OpenPair}
use Rattle.mt_kept.specs.Private.Made.{opens}
use Rattle.mt_kept.specs.Private.Window.{Shows}
use Rattle.mt_kept.proofs.Publishing.{shows_more}
use Rattle.mt_base.proofs.Members.{take_push}
use Rattle.mt_kept.proofs.showing.shown_of.Goals as goal
use Rattle.mt_kept.proofs.showing.shown_of.Goals.{then-is_open+in_ok-add_shown, else-is_open}

pub loop-pair-preserved : goal.loop-pair-preserved
loop-pair-preserved c =
    let before = take c.loop-pair.pair-index c.args.pairs.now in
    let more = take_push c.args.pairs.now c.loop-pair.pair-index c.pair-item.result c.loop-pair-test.true c.pair-item.is in
    elim c.if-is_open.branch [
      | then-is_open+in_ok-add_shown w ↦ rw (w.list-is, w.in_ok-add_shown.ensures, more, filter-append, sym c.is_open.ensures ∙ w.if-is_open.true)
          (shows_more (filter (opens c.args.now) before) c.pair-item.result c.loop-pair.list.items c.loop-pair.invariant)
      | else-is_open w ↦ rw (w.list-is, more, filter-append, sym c.is_open.ensures ∙ w.if-is_open.false, append-nil) c.loop-pair.invariant
    ]

pub returns : goal.returns
returns c =
    let all = take_all c.loop-pair.pair-index c.args.pairs.now c.loop-pair-test.false in
    let whole = subst (λ (pairs : List OpenPair). (d : Conflict) → Contains c.loop-pair.list.items d ↔ Shows (filter (opens c.args.now) pairs) d) all c.loop-pair.invariant in
    λ d. ((λ held. (whole d).0 ((c.of.ensures d).0 held)), (λ h. (c.of.ensures d).1 ((whole d).1 h)))
