-- No public contract names these: they are of private steps and of proofs.
use Rattle.std.specs.Prelude.{◌≡◌, Bool, true, false, Option, Result, Ok, Err, ⊤}
use Rattle.serde_json.specs.Data.{Data, Members}
use Rattle.mt_read.specs.declared.key.Key.{Key}
use Rattle.mt_read.specs.declared.key.Fault.{Fault}
use Rattle.mt_read.specs.declared.stop.Stop.{Stop}
use Rattle.mt_read.specs.declared.stop.Stop.TheVariants as stop
use Rattle.mt_read.specs.Field.{form_check, is_of}

-- a key has a value of a kind
abbrev pub there : {A : Type 0} → Key → (Data → Option A) → Members → Fault × Bool
there key kind ms = form_check key false true (is_of kind) ms

-- this answer, or want of memory
abbrev pub IsUnlessMemory : {A : Type 0} → Result A Stop → Result A Fault → Type 0
IsUnlessMemory (Ok y) r = r ≡ Ok y
IsUnlessMemory (Err (stop.Fault e)) r = r ≡ Err e
IsUnlessMemory (Err stop.Memory) r = ⊤
