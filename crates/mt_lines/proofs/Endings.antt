-- What follows from an ending.
use Rattle.std.proofs.Common.{◌≡◌, Bool, true, false, Some, Result, Ok, Err, refl}
use Rattle.std.specs.Prelude.{OnErr}
use Rattle.mt_io.specs.declared.whole_write.WriteFault.{WriteFault as Failed}
use Rattle.mt_io.specs.declared.line.LineFault.{LineFault}
use Rattle.mt_io.specs.declared.line.LineFault.TheVariants as faults
use Rattle.mt_lines.specs.Ending.{ending_after, fault_ending}
use Rattle.mt_lines.specs.declared.ending.Ending.TheVariants.{ReadFault, WriteFault}

-- a reply that was given is no fault of the input
pub no_read : (given : Result Bool Failed) (is_over : Bool) → ending_after given is_over ≡ Some ReadFault → ⊥
no_read (Err fault) is_over is = cc
no_read (Ok true) is_over is = cc
no_read (Ok false) true is = cc
no_read (Ok false) false is = cc

-- a fault of the output is that of the reply
pub failed : (given : Result Bool Failed) (is_over : Bool) (P : Type 0) → OnErr given P → ending_after given is_over ≡ Some WriteFault → P
failed (Err fault) is_over P rose is = rose
failed (Ok true) is_over P rose is = absurd cc
failed (Ok false) true P rose is = absurd cc
failed (Ok false) false P rose is = absurd cc

-- lines end by a fault of their reader as it is
pub read_fault : (fault : LineFault) → Some (fault_ending fault) ≡ Some ReadFault → fault ≡ faults.ReadFault
read_fault faults.ReadFault is = refl
read_fault faults.Spent is = cc

pub no_write : (fault : LineFault) → Some (fault_ending fault) ≡ Some WriteFault → ⊥
no_write faults.ReadFault is = cc
no_write faults.Spent is = cc
