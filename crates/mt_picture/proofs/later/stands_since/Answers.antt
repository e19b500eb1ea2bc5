use Rattle.std.proofs.Common.{◌≡◌, ℕ, ⊎_elim, false, sym, subst, ◌∙◌, arith}
use Rattle.std.proofs.lemmas.Bool.{cases_lt}
use Rattle.mt_picture.specs.Private.Candidates.{is_made_since}
use Rattle.mt_picture.proofs.Newer.{none_by_places}
use Rattle.mt_picture.proofs.later.stands_since.Goals as goal

pub loop-place-preserved : goal.loop-place-preserved
loop-place-preserved c = λ i below. ⊎_elim
    (λ before. c.loop-place.invariant i before)
    (λ behind. let same : c.loop-place.place ≡ i = omega (arith, below, behind) in
    subst (λ (j : ℕ). is_made_since c.args.snapshot.now.slots c.args.version j ≡ false) same (sym c.is_made_since.ensures ∙ c.if-is_made_since.false))
    (cases_lt i c.loop-place.place)

pub returns : goal.returns
returns c = λ told. none_by_places c.args.snapshot.now.slots c.args.version c.loop-place.place (omega (arith, c.loop-place.auto.place-end, c.loop-place-test.false, c.slots-place-end.ensures))
    c.loop-place.invariant
