-- No public contract names these: they are of private steps and of proofs.
-- What a writer leaves in a room.
use Rattle.std.specs.Prelude.{◌≡◌, ℕ, ◌+◌, ◌<◌, ◌≤◌, List, ◌++◌, length, Result, Ok, Err, ⊤, vec_len, vec_capacity}
use Rattle.std.specs.Global.{Vec}
use Rattle.mt_memory.specs.declared.Memory.{Memory}

-- the text was appended, and the room didn't shrink; or there wasn't room enough for it
abbrev pub Puts : Result ⊤ Memory → Vec ℕ → Vec ℕ → List ℕ → Type 0
Puts (Ok _) old new text = (new.items ≡ old.items ++ text) × (vec_len new ≡ vec_len old + length text) × (vec_capacity old ≤ vec_capacity new)
Puts (Err _) old new text = vec_capacity old < vec_len old + length text
