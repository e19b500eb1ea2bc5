-- Pieces of the time of two trajectories, in each of which both have one slice.
use Rattle.std.proofs.Common.{◌≡◌, ◌≤◌, ◌<◌, ◌+◌, ◌-◌, ◌*◌, ◌/◌, ◌%◌, ◌&&◌, ⊎_elim, Bool, ℕ, List, All, None, drop, get_or, length, max, min, refl, arith}
use Rattle.std.proofs.lemmas.Bool.{cases_lt}
use Rattle.std.proofs.lemmas.List.{get_or-drop, length-drop}
use Rattle.mt_base.specs.declared.rules.Rules.{Rules}
use Rattle.mt_cover.specs.Layer.{IsLayerKept}
use Rattle.mt_cover.specs.declared.sliced.Slice.{Slice}
use Rattle.mt_cover.specs.Sliced.{AreSlices, Sliced, no_slice, slice_at}
use Rattle.mt_meet.specs.Meeting.{IsHullOf, MeetAt}
use Rattle.mt_meet.specs.Private.Meeting.{Before, IsFirstPiece, MeetOnlyIn, PieceMeets}
use Rattle.mt_meet.specs.Private.Pieces.{ArePieces, BeginEarly, HaveSlices, left_begun, right_begun, piece_seconds}
use Rattle.mt_meet.specs.declared.meeting.Pieces.{Pieces}

-- the slice of a second is that of a number, from the slice of an earlier second on, which begins at x
slice_in : (s : Sliced) (begin x number k : ℕ) (list : List Slice) → s.from ≤ begin → x ≡ begin - (begin - s.from) % 128
    → list ≡ drop ((begin - s.from) / 128) s.list → begin ≤ k → (k - x) / 128 ≡ number → slice_at s k ≡ get_or list number no_slice
slice_in s begin x number k list begun x_is list_is late number_is =
    let place : (k - s.from) / 128 ≡ (begin - s.from) / 128 + number = omega (arith, begun, x_is, late, number_is) in
    rw (list_is, get_or-drop ((begin - s.from) / 128) s.list number no_slice, place) refl

-- there is a slice of each number that begins before an end
long_enough : (s : Sliced) (begin end x number : ℕ) (list : List Slice) → AreSlices s → s.from ≤ begin → end ≤ s.to → x ≡ begin - (begin - s.from) % 128
    → list ≡ drop ((begin - s.from) / 128) s.list → x + 128 * number < end → number < length list
long_enough s begin end x number list kept begun within x_is list_is early =
    let long = length-drop ((begin - s.from) / 128) s.list in
    rw list_is (omega (arith, long, kept.number, begun, within, x_is, early))

module _ (a b : Sliced) (begin end : ℕ) (p : Pieces) (them : ArePieces a b begin end p) where
  -- which of the first slices ends earlier
  in_order : {G : Type 0} → (p.starts.0 < p.starts.1 → p.turn.0 ≡ 1 → p.turn.1 ≡ 0 → G) → (p.starts.1 < p.starts.0 → p.turn.0 ≡ 0 → p.turn.1 ≡ 1 → G)
      → (p.starts.0 ≡ p.starts.1 → p.turn.0 ≡ 0 → p.turn.1 ≡ 0 → G) → G
  in_order left right both = ⊎_elim
      (λ less. left less (them.left_first less) (them.right_not (omega (arith, less))))
      (λ no. ⊎_elim
      (λ more. right more (them.left_not no) (them.right_first more))
      (λ neither. both (omega (arith, no, neither)) (them.left_not no) (them.right_not neither))
      (cases_lt p.starts.1 p.starts.0))
      (cases_lt p.starts.0 p.starts.1)

  left_near : p.starts.0 < p.starts.1 + 128
  left_near = omega (arith, them.left_start, them.right_start)

  right_near : p.starts.1 < p.starts.0 + 128
  right_near = omega (arith, them.left_start, them.right_start)

  left_on : (k : ℕ) → begin ≤ k → p.starts.0 ≤ k
  left_on k late = omega (arith, them.left_start, late)

  right_on : (k : ℕ) → begin ≤ k → p.starts.1 ≤ k
  right_on k late = omega (arith, them.right_start, late)

  -- in the piece of a second stand the slices of the second
  left_at : (k : ℕ) → begin ≤ k → ((k - p.starts.0) / 128 + (k - p.starts.1) / 128 + p.turn.0) / 2 ≡ (k - p.starts.0) / 128
  left_at k late =
      let left = left_on k late in
      let right = right_on k late in in_order
      (λ less l r. omega (arith, right_near, left, right, less, l))
      (λ more l r. omega (arith, left_near, left, right, more, l))
      (λ same l r. omega (arith, left, right, same, l))

  right_at : (k : ℕ) → begin ≤ k → ((k - p.starts.0) / 128 + (k - p.starts.1) / 128 + p.turn.1) / 2 ≡ (k - p.starts.1) / 128
  right_at k late =
      let left = left_on k late in
      let right = right_on k late in in_order
      (λ less l r. omega (arith, right_near, left, right, less, r))
      (λ more l r. omega (arith, left_near, left, right, more, r))
      (λ same l r. omega (arith, left, right, same, r))

  -- the first second of a piece is in both of its slices
  first_in : (piece k : ℕ) → a.from ≤ begin → b.from ≤ begin → k ≡ max begin (max (left_begun p piece) (right_begun p piece))
      → ((k - p.starts.0) / 128 ≡ (piece + p.turn.0) / 2) × ((k - p.starts.1) / 128 ≡ (piece + p.turn.1) / 2)
  first_in piece k a_begun b_begun k_is =
      let left = left_on begin (omega arith) in
      let right = right_on begin (omega arith) in
      let left_in : begin < p.starts.0 + 128 = omega (arith, them.left_start, a_begun) in
      let right_in : begin < p.starts.1 + 128 = omega (arith, them.right_start, b_begun) in in_order
      (λ less l r. (omega (arith, left, left_in, right, right_in, k_is, right_near, less, l, r), omega (arith, left, left_in, right, right_in, k_is, right_near, less, l, r)))
      (λ more l r. (omega (arith, left, left_in, right, right_in, k_is, left_near, more, l, r), omega (arith, left, left_in, right, right_in, k_is, left_near, more, l, r)))
      (λ same l r. (omega (arith, left, left_in, right, right_in, k_is, same, l, r), omega (arith, left, left_in, right, right_in, k_is, same, l, r)))

  -- and so is its last one
  last_in : (piece past : ℕ) → left_begun p piece < end → right_begun p piece < end → past ≡ min end (min (left_begun p piece) (right_begun p piece) + 128)
      → ((past - 1 - p.starts.0) / 128 ≡ (piece + p.turn.0) / 2) × ((past - 1 - p.starts.1) / 128 ≡ (piece + p.turn.1) / 2)
  last_in piece past left right past_is = in_order
      (λ less l r. (omega (arith, left, right, past_is, right_near, less, l, r), omega (arith, left, right, past_is, right_near, less, l, r)))
      (λ more l r. (omega (arith, left, right, past_is, left_near, more, l, r), omega (arith, left, right, past_is, left_near, more, l, r)))
      (λ same l r. (omega (arith, left, right, past_is, same, l, r), omega (arith, left, right, past_is, same, l, r)))

  module _ (minima : Rules) (outside : MeetOnlyIn minima a b begin end) where
    -- the slices of a piece begin before the end
    in_time : (piece : ℕ) → piece < p.number → (left_begun p piece < end) × (right_begun p piece < end)
    in_time piece early =
        let late : begin ≤ end - 1 = omega (arith, outside.some) in
        let left = left_on (end - 1) late in
        let right = right_on (end - 1) late in
        let l = left_at (end - 1) late in
        let r = right_at (end - 1) late in
        (omega (arith, outside.some, left, right, early, them.number_is, l, r), omega (arith, outside.some, left, right, early, them.number_is, l, r))

    pub begin_early : AreSlices a → AreSlices b → (piece : ℕ) → piece < p.number → BeginEarly p piece
    begin_early a_kept b_kept piece early =
        let begun = in_time piece early in
        record { left = omega (arith, begun.0, outside.a_within, a_kept.early); right = omega (arith, begun.1, outside.b_within, b_kept.early) }

    module _ (left right : List Slice) (left_is : left ≡ drop ((begin - a.from) / 128) a.list) (right_is : right ≡ drop ((begin - b.from) / 128) b.list) where
      left_enough : AreSlices a → (piece : ℕ) → piece < p.number → (piece + p.turn.0) / 2 < length left
      left_enough kept piece early =
          long_enough a begin end p.starts.0 ((piece + p.turn.0) / 2) left kept outside.a_begun outside.a_within them.left_start left_is (in_time piece early).0

      right_enough : AreSlices b → (piece : ℕ) → piece < p.number → (piece + p.turn.1) / 2 < length right
      right_enough kept piece early =
          long_enough b begin end p.starts.1 ((piece + p.turn.1) / 2) right kept outside.b_begun outside.b_within them.right_start right_is (in_time piece early).1

      pub have_slices : AreSlices a → AreSlices b → All (λ (slice : Slice). IsLayerKept slice.layer) left → All (λ (slice : Slice). IsLayerKept slice.layer) right → HaveSlices left right p
      have_slices a_kept b_kept left_kept right_kept = record { left = left_enough a_kept; right = right_enough b_kept; left_kept = left_kept; right_kept = right_kept }

      module _ (approved : Bool) (approved_is : approved ≡ (a.rvsm && b.rvsm)) where
        meet_in : (piece k : ℕ) → begin ≤ k → k < end → (k - p.starts.0) / 128 ≡ (piece + p.turn.0) / 2 → (k - p.starts.1) / 128 ≡ (piece + p.turn.1) / 2
            → PieceMeets minima approved left right p.turn piece → MeetAt minima a b k
        meet_in piece k begun within left_slice right_slice meet = record {
          left = record { begun = omega (arith, outside.a_begun, begun); within = omega (arith, outside.a_within, within) };
          right = record { begun = omega (arith, outside.b_begun, begun); within = omega (arith, outside.b_within, within) };
          meet = rw (
            slice_in a begin p.starts.0 ((piece + p.turn.0) / 2) k left outside.a_begun them.left_start left_is begun left_slice,
            slice_in b begin p.starts.1 ((piece + p.turn.1) / 2) k right outside.b_begun them.right_start right_is begun right_slice,
            ← approved_is,
          ) meet;
        }

        piece_of : (k : ℕ) → MeetAt minima a b k → Before (PieceMeets minima approved left right p.turn) p.number ((k - p.starts.0) / 128 + (k - p.starts.1) / 128)
        piece_of k meet =
            let within = outside.all k meet in
            let left_begins = left_on k within.0 in
            let right_begins = right_on k within.0 in (
              omega (arith, them.number_is, left_begins, right_begins, within.1),
              rw (
                left_at k within.0,
                right_at k within.0,
                ← slice_in a begin p.starts.0 ((k - p.starts.0) / 128) k left outside.a_begun them.left_start left_is within.0 refl,
                ← slice_in b begin p.starts.1 ((k - p.starts.1) / 128) k right outside.b_begun them.right_start right_is within.0 refl,
                approved_is,
              ) meet.meet,
            )

        pub no_piece : IsFirstPiece (Before (PieceMeets minima approved left right p.turn) p.number) None → (k : ℕ) → ¬ MeetAt minima a b k
        no_piece none k meet = none ((k - p.starts.0) / 128 + (k - p.starts.1) / 128) (piece_of k meet)

        -- the first and the last piece give the first and the last second
        pub pieces_hull : (first last start past : ℕ) → start ≡ max begin (piece_seconds p first).0 → past ≡ min end (piece_seconds p last).1
            → IsHullOf (Before (PieceMeets minima approved left right p.turn) p.number) first last → IsHullOf (MeetAt minima a b) start (past - 1)
        pieces_hull first last start past start_is past_is hull =
            let begins = in_time first hull.first_is.0 in
            let ends = in_time last hull.last_is.0 in
            let at_first = first_in first start outside.a_begun outside.b_begun start_is in
            let at_last = last_in last past ends.0 ends.1 past_is in
            let left_begins = left_on begin (omega arith) in
            let right_begins = right_on begin (omega arith) in
            record {
              first_is = meet_in first start (omega (arith, start_is)) (omega (arith, start_is, begins.0, begins.1, outside.some)) at_first.0 at_first.1 hull.first_is.1;
              last_is = meet_in last (past - 1) (omega (arith, past_is, them.left_start, them.right_start, outside.some)) (omega (arith, past_is, outside.some)) at_last.0 at_last.1 hull.last_is.1;
              none_outside = λ k meet.
                  let within = outside.all k meet in
                  let between = hull.none_outside ((k - p.starts.0) / 128 + (k - p.starts.1) / 128) (piece_of k meet) in
                  let l = left_at k within.0 in
                  let r = right_at k within.0 in (
                    omega (arith, start_is, between.0, within.0, l, r, them.left_start, them.right_start),
                    omega (arith, past_is, between.1, within.1, l, r, them.left_start, them.right_start),
                  );
            }
