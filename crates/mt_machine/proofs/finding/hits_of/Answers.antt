use Rattle.std.proofs.Common.{sym, ◌∙◌, ap, true≢false}
use Rattle.std.proofs.lemmas.Slice.Eq.{bytes_eq-Decides}
use Rattle.mt_base.specs.Picture.{State}
use Rattle.mt_base.specs.Tables.{Setup, setup_with}
use Rattle.mt_machine.proofs.Struck.{hit_more, hits_are, hits_short, other_more, own_more}
use Rattle.mt_machine.proofs.finding.hits_of.Goals as goal
use Rattle.mt_machine.proofs.finding.hits_of.Goals.{in-Some+in_ok-push, in_default}

pub loop-other-preserved-then-eq : goal.loop-other-preserved-then-eq
loop-other-preserved-then-eq c =
    own_more (setup_with c.args.rules.now c.args.tables.now) c.plain.inside.moment c.deref-other-items.result.now c.loop-other.other-index
    c.other-item.result c.args.call c.args.strand.now c.loop-other.hits c.loop-other-test.true c.other-item.is c.loop-other.invariant
    ((bytes_eq-Decides c.other-item.result.call c.args.call).0 (sym c.eq.ensures ∙ c.if-eq.true))

pub loop-other-preserved : goal.loop-other-preserved
loop-other-preserved c =
    let setup : Setup = setup_with c.args.rules.now c.args.tables.now in
    elim c.match-branch-3.branch [
      | in-Some+in_ok-push w ↦
          rw (w.hits-is, w.in_ok-push.ensures.ok)
          (hit_more setup c.plain.inside.moment c.deref-other-items.result.now c.loop-other.other-index c.other-item.result c.args.call c.args.strand.now
          c.loop-other.hits w.in-Some.hit c.loop-other-test.true c.other-item.is c.loop-other.invariant
          (λ same. true≢false (sym ((bytes_eq-Decides c.other-item.result.call c.args.call).1 same) ∙ sym c.eq.ensures ∙ c.if-eq.false))
          (rw w.in-Some.is at c.in_ok-hit.ensures.exact) c.in_ok-hit.ensures.named)
      | in_default w ↦
          rw w.hits-is
          (other_more setup c.plain.inside.moment c.deref-other-items.result.now c.loop-other.other-index c.other-item.result c.args.call c.args.strand.now
          c.loop-other.hits c.loop-other-test.true c.other-item.is c.loop-other.invariant
          (rw w.in_default.is at c.in_ok-hit.ensures.exact))
    ]

pub returns-clause-exact : goal.returns-clause-exact
returns-clause-exact c =
    let setup : Setup = setup_with c.args.rules.now c.args.tables.now in
    let moment = ap (λ (s : State). s.now) (sym c.plain.view_is) in
    let flights = ap (λ (s : State). s.records) (sym c.plain.view_is) ∙ sym c.deref-other-items.ensures.value in
    hits_are setup c.args.plain.now c.plain.inside.moment c.deref-other-items.result.now c.loop-other.other-index c.args.call c.args.strand.now
    c.loop-other.hits c.order.new.self moment flights c.loop-other-test.false c.loop-other.invariant c.order.ensures.same c.order.ensures.sorted

pub returns-clause-short : goal.returns-clause-short
returns-clause-short c =
    let setup : Setup = setup_with c.args.rules.now c.args.tables.now in
    let flights = ap (λ (s : State). s.records) (sym c.plain.view_is) ∙ sym c.deref-other-items.ensures.value in
    hits_short setup c.args.plain.now c.plain.inside.moment c.deref-other-items.result.now c.loop-other.other-index c.args.call c.args.strand.now
    c.loop-other.hits c.order.new.self flights c.requires.sound.few c.requires.flies c.loop-other-test.false c.loop-other.invariant
    c.order.ensures.same c.order.ensures.fewer
