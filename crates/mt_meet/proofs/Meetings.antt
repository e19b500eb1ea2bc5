-- What meets is near, and what loses separation meets.
use Rattle.std.proofs.Common.{◌≡◌, ◌<◌, ◌≤◌, ℕ, zero, suc, length, List, [], ◌∷◌, Option, Some, None, max, min, get_or, arith}
use Rattle.std.specs.Int.{bit_at}
use Rattle.mt_cover.specs.Sliced.{Have, Sliced}
use Rattle.mt_cover.proofs.Law.{cut_by_loss, touching_is_near}
use Rattle.mt_meet.proofs.Layers.{lying_apart}
use Rattle.mt_meet.specs.Meeting.{Asked, LosingMeet, MeetingIsNear}
use Rattle.mt_meet.specs.Searching.{MeetsOnlyIn, part_at}
use Rattle.mt_meet.specs.Private.Meeting.{MeetOnlyIn}

pub losing_meet : LosingMeet
losing_meet rules a b k rules_kept a_kept b_kept loss =
    let cut = cut_by_loss rules a b k loss rules_kept a_kept b_kept in
    record {
      left = cut.left;
      right = cut.right;
      meet = record {
        touch = cut.touch;
        heights = λ apart. lying_apart rules a.rvsm b.rvsm _ _ loss.left loss.right rules_kept.sv2.least apart cut.left_in cut.right_in loss.loss;
      };
    }

pub meeting_is_near : MeetingIsNear
meeting_is_near rules a b k rules_kept a_kept b_kept meet = touching_is_near rules a b k rules_kept a_kept b_kept meet.left meet.right meet.meet.touch

-- the seconds that two trajectories have in common, of those between which some parts lie, are those in which their slices may meet
pub narrowed : (asked : Asked) (table : List (Option Sliced)) (item parts : ℕ) (theirs : Sliced) (from to begin end : ℕ) → get_or table item None ≡ Some theirs
    → MeetsOnlyIn asked table item parts → ((k : ℕ) → Have asked.sliced k → bit_at parts (part_at asked.sliced k) ≡ 1 → (from ≤ k) × (k < to))
    → begin ≡ max (max from asked.sliced.from) theirs.from → end ≡ min (min to asked.sliced.to) theirs.to → begin < end
    → MeetOnlyIn asked.rules asked.sliced theirs begin end
narrowed asked table item parts theirs from to begin end there only between begin_is end_is some = record {
  some = some;
  a_begun = omega (arith, begin_is);
  b_begun = omega (arith, begin_is);
  a_within = omega (arith, end_is);
  b_within = omega (arith, end_is);
  all = λ k meet. let in_them = between k meet.left (only theirs k there meet) in
      (omega (arith, begin_is, in_them.0, meet.left.begun, meet.right.begun), omega (arith, end_is, in_them.1, meet.left.within, meet.right.within));
}

pub within : (all : List (Option Sliced)) (item : ℕ) (theirs : Sliced) → get_or all item None ≡ Some theirs → item < length all
within [] item theirs there = absurd (cc)
within (x ∷ all) zero theirs there = omega arith
within (x ∷ all) (suc item) theirs there = let h = within all item theirs there in omega (arith, h)
