use Rattle.std.proofs.Common.{◌≡◌, ◌<◌, ℕ, false}
use Rattle.mt_picture.specs.Private.Candidates.{is_made_since}
use Rattle.mt_picture.proofs.later.stands_since.Given as goal

abbrev pub invariant-loop-place : goal.invariant-loop-place
invariant-loop-place l = (i : ℕ) → i < l.place → is_made_since l.snapshot.slots l.version i ≡ false
