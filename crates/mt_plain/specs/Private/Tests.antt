-- No public contract names these: they are of private steps and of proofs.
use Rattle.std.specs.Prelude.{ℕ, cond}
use Rattle.mt_base.specs.Picture.{NamedTrajectory}
use Rattle.mt_plain.specs.Tests.{is_before}

-- the tests of an ordered pair, and of a trajectory with each of a list
abbrev pub tests_of_pair : NamedTrajectory → NamedTrajectory → ℕ
tests_of_pair left right = cond (is_before left right) 1 0
