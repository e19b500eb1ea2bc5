-- How a line ends.
use Rattle.std.specs.Prelude.{ℕ, Bool, true, false, List, [], ◌∷◌}

-- 0x0A after any line but the last
abbrev pub ending_of : Bool → List ℕ
ending_of true = 10 ∷ []
ending_of false = []
