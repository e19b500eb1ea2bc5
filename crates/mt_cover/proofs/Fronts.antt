-- The first slices of a trajectory.
use Rattle.std.proofs.Common.{◌≡◌, ◌≤◌, ◌+◌, ◌-◌, ◌*◌, ◌/◌, ℕ, min, max, All, length, refl, sym, ◌∙◌, arith}
use Rattle.std.proofs.lemmas.List.FromFn.{get_or-map-range_with_len}
use Rattle.std.specs.Int.{div_ceil}
use Rattle.mt_base.specs.declared.rules.Rules.{Rules}
use Rattle.mt_base.specs.Trajectory.{Trajectory}
use Rattle.mt_track.specs.Laid.{IsStrand}
use Rattle.mt_cover.specs.Layer.{IsLayerKept}
use Rattle.mt_cover.specs.declared.sliced.Slice.{Slice}
use Rattle.mt_cover.specs.Sliced.{AreFrontUntil, AreSlices, Sliced, no_slice, slice_in, slices_of}
use Rattle.mt_cover.specs.Private.Walk.{front_of}

pub front_until : (rules : Rules) (t : Trajectory) (to until number : ℕ) → until ≡ max (min (t.start + length t.rows) to) t.start
    → number ≡ div_ceil (until - t.start) 128 → AreFrontUntil (slices_of rules t) to (front_of rules t number)
front_until rules t to until number until_is number_is = record {
  rvsm_is = refl;
  whole = λ k have early. record { begun = have.begun; within = omega (arith, until_is, number_is, have.begun, have.within, early) };
  same = λ k have. (
    record { begun = have.begun; within = omega (arith, have.within) },
    get_or-map-range_with_len (slice_in rules t) 0 number ((k - t.start) / 128) ((k - t.start) / 128) no_slice (omega (arith, have.begun, have.within)) (omega arith)
        ∙ sym (get_or-map-range_with_len (slice_in rules t) 0 (div_ceil (length t.rows) 128) ((k - t.start) / 128) ((k - t.start) / 128) no_slice
        (omega (arith, have.begun, have.within)) (omega arith)),
  );
}

-- all of them
pub front_all : (rules : Rules) (t : Trajectory) (number : ℕ) → number ≡ div_ceil (length t.rows) 128 → front_of rules t number ≡ slices_of rules t
front_all rules t number number_is =
    let end : min (t.start + length t.rows) (t.start + 128 * number) ≡ t.start + length t.rows = omega (arith, number_is) in
    rw (end, number_is) refl

-- they are slices
pub front_kept : (t : Trajectory) (s : Sliced) (number : ℕ) → number ≤ div_ceil (length t.rows) 128 → IsStrand t → s.from ≡ t.start
    → s.to ≡ min (t.start + length t.rows) (t.start + 128 * number) → length s.list ≡ number → All (λ (slice : Slice). IsLayerKept slice.layer) s.list → AreSlices s
front_kept t s number few kept from_is to_is number_is each = record {
  number = omega (arith, few, from_is, to_is, number_is);
  ordered = omega (arith, from_is, to_is);
  early = omega (arith, to_is, kept.early);
  short = omega (arith, from_is, to_is, kept.short);
  each = each;
}
