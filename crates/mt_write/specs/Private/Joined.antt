-- No public contract names these: they are of private steps and of proofs.
use Rattle.std.specs.Prelude.{ℕ, List, [], ◌∷◌, ◌++◌}
use Rattle.std.specs.Borrow.{Bor}

-- texts that are lent, one after the other
abbrev pub texts_joined : List (Bor (List ℕ)) → List ℕ
texts_joined [] = []
texts_joined (p ∷ ps) = p.now ++ texts_joined ps
