use Rattle.std.proofs.Common.{◌≡◌, ◌<◌, Some, slice_get, true≢false, sym, subst, ◌∙◌, arith}
use Rattle.std.proofs.lemmas.Option.{get_or_from_slice_get, slice_get_within}
use Rattle.mt_base.specs.declared.command.Entry.{Entry}
use Rattle.mt_probe.specs.Prepared.{MakesStrand}
use Rattle.mt_picture.proofs.later.is_one_made.Goals as goal

pub loop-n-preserved : goal.loop-n-preserved
loop-n-preserved c = λ j e from below at makes.
    let earlier : j < c.loop-n.n → ⊥ = λ h. c.loop-n.invariant j e from h at makes in
    let here : j ≡ c.loop-n.n → ⊥ = λ same.
    let at_n : slice_get c.args.history.now c.loop-n.n ≡ Some e = rw (← same) at in
    let entry = get_or_from_slice_get c.args.history.now c.loop-n.n e c.index-history-n.result at_n in
    true≢false (sym (c.makes_strand.ensures.1 (subst (λ (x : Entry). MakesStrand x.command) (sym entry) makes)) ∙ c.if-makes_strand.false) in
    omega (arith, earlier, here)

pub returns : goal.returns
returns c = λ told n entry from at makes.
    let within = slice_get_within c.args.history.now n entry at in
    c.loop-n.invariant n entry from (omega arith) at makes
