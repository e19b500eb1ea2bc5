use Rattle.std.proofs.Common.{◌≡◌, ◌∙◌, ◌+◌, ◌++◌, ap, arith, map, sym, suc, take, true, false, ℕ, refl}
use Rattle.mt_base.specs.declared.clearance.Clearance.TheVariants.{Direct}
use Rattle.mt_base.specs.Advice.{each_once}
use Rattle.mt_advise.proofs.Names.{name_more}
use Rattle.mt_advise.proofs.directs.put_directs.Goals as goal
use Rattle.mt_advise.proofs.directs.put_directs.Goals.{then-not-contains+in_ok-push, else-not-contains}

pub loop-i-preserved : goal.loop-i-preserved
loop-i-preserved c =
    let names = c.args.names.now in
    let old = c.args.list.now.items in
    let i = c.loop-i.i in
    let m = c.index-names-i.result in
    let next : suc i ≡ i + 1 = omega arith in
    elim c.if-not-contains.branch [
      | then-not-contains+in_ok-push w ↦
          name_more names i m old c.loop-i.list.items c.if-not-contains.list.items c.loop-i-test.true c.index-names-i.is c.loop-i.invariant false
          (sym w.if-not-contains.true ∙ c.contains.ensures.value) (rw w.list-is w.in_ok-push.ensures.items)
          ∙ ap (λ (k : ℕ). old ++ map Direct (each_once (take k names))) next
      | else-not-contains w ↦
          name_more names i m old c.loop-i.list.items c.if-not-contains.list.items c.loop-i-test.true c.index-names-i.is c.loop-i.invariant true
          (sym w.if-not-contains.false ∙ c.contains.ensures.value) (rw w.list-is refl)
          ∙ ap (λ (k : ℕ). old ++ map Direct (each_once (take k names))) next
    ]
