-- No public contract names these: they are of private steps and of proofs.
-- The flags of a verdict as a list of their names.
use Rattle.std.specs.Prelude.{ℕ, List, [], ◌∷◌, ◌++◌, Bool, ◌||◌, if◌then◌else◌}
use Rattle.std.specs.Borrow.{Bor}
use Rattle.serde_json.specs.Data.{Data, array, string}
use Rattle.mt_base.specs.declared.verdict.Verdict.{Verdict}
use Rattle.mt_write.specs.Entry.{values}
use Rattle.mt_write.specs.Reply.{flags, holding}

-- a verdict as the list of the names of its flags that hold
abbrev pub verdict_value : Verdict → Data
verdict_value v = array (values string (holding (flags v)))

-- the name of a flag that holds, after a comma, or after the list's bracket where no name stands before it
abbrev pub flag_text : Bool → List ℕ → Bool → List ℕ
flag_text later name holds = if holds then (if later then 44 else 91) ∷ (34 ∷ (name ++ 34 ∷ [])) else []

-- some flags one after the other, and what ends the list
abbrev pub flags_text : Bool → List (Bor (List ℕ) × Bool) → List ℕ
flags_text later [] = if later then 93 ∷ [] else 91 ∷ 93 ∷ []
flags_text later (f ∷ fs) = flag_text later f.0.now f.1 ++ flags_text (later || f.1) fs
