-- No public contract names these: they are of private steps and of proofs.
use Rattle.std.specs.Prelude.{refl}
use Rattle.std.proofs.Common.{◌∙◌, arith}
use Rattle.mt_io.specs.Calls.{AreUnlisted, FaultPlan, GoOn}

-- `went_none`, `went_on`: calls go on over no call, and over two runs of calls
pub went_none : (calls : FaultPlan) → GoOn calls calls
went_none calls = record { same = refl; more = omega arith; later = omega arith }

pub went_on : (a b c : FaultPlan) → GoOn a b → GoOn b c → GoOn a c
went_on a b c ab bc = record {
  same = bc.same ∙ ab.same;
  more = omega arith;
  later = omega arith;
}

-- `unlisted_first`, `unlisted_others`: where no call of all is listed, none of the first ones is, and none of the others
pub unlisted_first : (a b c : FaultPlan) → GoOn b c → AreUnlisted a c → AreUnlisted a b
unlisted_first a b c bc none n above within = none n above (omega arith)

pub unlisted_others : (a b c : FaultPlan) → GoOn a b → AreUnlisted a c → AreUnlisted b c
unlisted_others a b c ab none n above within = rw ab.same (none n (omega arith) within)
