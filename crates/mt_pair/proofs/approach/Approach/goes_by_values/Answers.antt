use Rattle.std.proofs.Common.{◌≡◌, Bool, true, not, is_some, Option, Some, None, arith, refl}
use Rattle.std.proofs.lemmas.Int.{to_z-of_z}
use Rattle.mt_pair.proofs.Wholes.{wide_fits}
use Rattle.mt_pair.proofs.approach.Approach.goes_by_values.Goals as goal

none_is : {X : Type 0} (o : Option X) (r : Bool) → is_some o ≡ not r → r ≡ true → o ≡ None
none_is None r is none = refl
none_is (Some x) r is none = cc

pub returns-then-self-ge0 : goal.returns-then-self-ge0
returns-then-self-ge0 c = λ yes. (
  (let s = wide_fits c.args.self.now.gap c.args.self.now.gap_bounded in grind (arith, to_z-of_z)),
  none_is _ _ c.is_none.ensures yes,
)
