use Rattle.std.proofs.Common.{◌≡◌, ⊎_elim, ℕ, get_or, subst, arith}
use Rattle.std.proofs.lemmas.Bool.{cases_lt}
use Rattle.std.specs.Int.{bit_at}
use Rattle.mt_meet.proofs.Parts.{or_left, or_right}
use Rattle.mt_meet.proofs.marked_items.bits_of_eight.Goals as goal

pub loop-place-preserved : goal.loop-place-preserved
loop-place-preserved c = λ place bit late below one. ⊎_elim
    (λ early. or_left c.loop-place.all (get_or c.args.bytes.now c.loop-place.place 0) bit (c.loop-place.invariant place bit late early one))
    (λ last. let same : place ≡ c.loop-place.place = omega (arith, last, below) in
    or_right c.loop-place.all (get_or c.args.bytes.now c.loop-place.place 0) bit (subst (λ (n : ℕ). bit_at (get_or c.args.bytes.now n 0) bit ≡ 1) same one))
    (cases_lt place c.loop-place.place)
