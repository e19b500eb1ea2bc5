use Rattle.std.proofs.Common.{◌≡◌, ⊎_elim, ℕ, subst, sym, arith}
use Rattle.std.proofs.lemmas.Bool.{cases_lt}
use Rattle.mt_meet.specs.Private.Boxing.{bounds_at, IsPartMarked}
use Rattle.mt_meet.specs.Private.Stepping.{Cross}
use Rattle.mt_meet.proofs.boxes.Boxes.mark_crossing.Goals as goal

pub loop-place-preserved : goal.loop-place-preserved
loop-place-preserved c = record {
  kept = λ place part one. c.add.ensures.kept place part (c.loop-place.invariant.kept place part one);
  own = λ place part below cross one. ⊎_elim
      (λ early. c.add.ensures.kept place part (c.loop-place.invariant.own place part early cross one))
      (λ last. let same : place ≡ c.loop-place.place = omega (arith, last, below) in
      subst (λ (n : ℕ). IsPartMarked c.add.new.self n part) (sym same)
      (c.add.ensures.own (c.crosses.ensures (subst (λ (n : ℕ). Cross c.args.own.now (bounds_at c.args.self.now n)) same cross)) part one))
      (cases_lt place c.loop-place.place);
}
